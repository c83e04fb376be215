-- for the code: rotations, passes
pub mod Rotated
pub mod Backward
-- for the code: plans, and rotations by them
pub mod Spun
pub mod InStep
