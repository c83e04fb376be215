pub mod Digits
pub mod Grows
