pub mod Left
pub mod Slots
