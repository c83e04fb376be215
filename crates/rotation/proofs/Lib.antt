pub mod Turned
pub mod Angles
