pub mod Examples
pub mod Scaled
-- what stays finite
pub mod Whole
-- the stages of a cut
pub mod Stages
-- the count and the flag of sweeps: of one bond, and of a rounding
pub mod Counted
pub mod CountedBonds
pub mod Ranked
pub mod Made
pub mod Cuts
pub mod BondSlots
-- which refusals come in the work
pub mod Late
-- its counts
pub mod CountedCall
-- what was dropped is finite
pub mod Fine
-- absolute mode is the scope's cut
pub mod Absolute
