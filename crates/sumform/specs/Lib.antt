pub mod Contract
pub mod Start
pub mod Product
pub mod Entry
pub mod Call
pub mod Sums
