pub mod File
pub mod Calls
pub mod Writing
pub mod Reading
pub mod Text
