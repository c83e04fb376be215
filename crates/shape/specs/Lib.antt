pub mod Limits
pub mod Shapes
pub mod Sizes
pub mod Cores
