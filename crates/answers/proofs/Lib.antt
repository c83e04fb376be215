pub mod Outcomes
pub mod Checks
pub mod Late
pub mod Same
pub mod Told
