pub mod Strips
pub mod Starts
pub mod Checks
pub mod Walking
pub mod Slotted
pub mod Turning
