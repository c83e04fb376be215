-- a shape that is accepted, and the verdict on any
pub mod Shaped
pub mod Verdicts
pub mod Early
-- where things stand
pub mod Places
pub mod Packing
pub mod Offsets
pub mod Slotwise
-- other ranks
pub mod Ranks
pub mod Insides
