-- the step from a zone on, and the ranks that it leaves
pub mod Ranks
pub mod StepAgain
-- and the sums after it, over the chain by its kept ranks
pub mod Ranked
pub mod Resums
pub mod Work
-- a run's own work by that of the memory that a call works in
pub mod Over
-- what goes where, and the end
pub mod Placed
pub mod Reweighed
-- slots taken in
pub mod Sources
-- the run, by what the work left
pub mod Renews
