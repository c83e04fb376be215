-- the wrapped index, and what a boundary does to an entry
pub mod Boundaries
pub mod Mirrors
-- the entry at zero fraction, and examples
pub mod Still
pub mod Examples
pub mod Restart
-- which refusals come in the work
pub mod Late
pub mod Rounds
pub mod CountedSteps
-- what was dropped over several steps
pub mod Greatest
