pub mod Fronts
pub mod Guards
-- what a run is asked
pub mod Asks
pub mod InRow
pub mod Afresh
