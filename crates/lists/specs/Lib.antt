pub mod Lists
pub mod Slots
pub mod Walks
pub mod Floats
pub mod Strips
