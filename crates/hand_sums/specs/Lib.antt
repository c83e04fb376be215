pub mod Cases
pub mod Edges
pub mod Overflows
pub mod Dropped
pub mod Mirrored
pub mod Scaled
