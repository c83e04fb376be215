-- indices and tables
pub mod Cells
pub mod Tables
-- loops: what a turn more, the end and an early return say
pub mod Turns
pub mod Loops
pub mod Strips
pub mod Altered
pub mod Pairs
pub mod Stages
pub mod Firsts
pub mod Demands
pub mod Asked
pub mod Picks
pub mod Counts
pub mod Ranks
pub mod Over
pub mod Parts
pub mod Seen
pub mod Eighths
-- tests, and lists of f64
pub mod Tests
pub mod Floats
pub mod Finite
pub mod Sums
pub mod Order
-- slots and walks
pub mod Slots
pub mod Written
pub mod Packs
pub mod Walks
pub mod Keeps
pub mod Late
