-- for the code
pub mod Copied
-- slots
pub mod Committed
-- slots taken in, and where a commit starts
pub mod Taken
