pub mod StripProducts
pub mod Finished
pub mod Modes
pub mod Rotations
pub mod Swept
pub mod Chosen
pub mod Cores
pub mod Staged
