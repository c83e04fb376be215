pub mod Counts
-- the tolerance, worked out
pub mod PassExamples
-- the columns and the basis stay whole
pub mod Wholes
-- the split
pub mod Splits
pub mod RightCore
pub mod Examples
