pub mod Loops
pub mod Free
