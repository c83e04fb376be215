-- what is asked of rules, and that those of 000 and 001 meet it
pub mod Sound
pub mod Rules
-- lengths in a row, and the ranks of a run
pub mod InRow
pub mod KeptRanks
-- a fresh run: what its walks left is what it holds, and it is the step, then the inner product
pub mod Trace
pub mod Held
pub mod StepThenInner
-- any run: what stands before a replaced zone, what is left, and that unused room never matters
pub mod Before
pub mod Accepted
pub mod Untouched
pub mod AlikeRuns
pub mod UnusedRoom
-- demand 3: the restart, one request, any calls
pub mod Same
pub mod Found
pub mod OneRequest
pub mod StaysFresh
pub mod Lending
pub mod Demand3
pub mod NotInOrder
pub mod OnePage
-- which refusals come in the work
pub mod Late
-- small runs, computed
pub mod Computed
-- the counts of sweeps
pub mod CountedRuns
