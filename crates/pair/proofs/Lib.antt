pub mod SlabEntries
-- for the code: its columns
pub mod Columned
-- for the code: the pair by its stages
pub mod Pairs
-- for the code: both cores, stage by stage
pub mod FormedHalves
-- for the code: the kept rank, stages
pub mod Kept
pub mod Formed
-- the call
pub mod Checked
pub mod Calls
-- for the code: checks, the outputs, the end
pub mod Verdicts
pub mod Ended
