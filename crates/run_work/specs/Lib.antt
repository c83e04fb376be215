pub mod InPlace
pub mod Ranked
-- what the functions cite
pub mod Weights
pub mod Renewed
