pub mod Outcome
pub mod Table
