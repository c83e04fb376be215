-- a kept run, and the work on it from a zone on
pub mod Slices
pub mod Kept
pub mod Work
-- a fresh run, the three replacements, and the calls
pub mod Checks
pub mod Requests
pub mod Call
-- what the theorems speak of
pub mod Left
pub mod Sequence
pub mod OnePage
pub mod StepThenInner
pub mod Cases
pub mod Edges
