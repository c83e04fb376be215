pub mod Products
pub mod FactorRows
pub mod SweepRows
pub mod Chosen
pub mod Stages
