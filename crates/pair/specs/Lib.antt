pub mod SlabLoops
pub mod Rows
pub mod Loops
