pub mod Bytes
pub mod Placed
