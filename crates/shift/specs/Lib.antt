pub mod Starts
-- what the inner functions cite
pub mod Unrolled
