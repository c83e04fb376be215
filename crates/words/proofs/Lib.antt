-- parts of a list, and a list placed within another
pub mod Cuts
pub mod Placing
-- numbers in bytes, both ways
pub mod Finite
pub mod Bytes
pub mod Runs
