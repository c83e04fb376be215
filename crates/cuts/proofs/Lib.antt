pub mod Zoned
pub mod From
pub mod Stands
