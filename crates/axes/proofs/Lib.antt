pub mod Made
pub mod Gathered
