-- slots, turns that check, shapes
pub mod Slots
pub mod Turning
pub mod Shapes
-- the file field by field, what writing and reading accept
pub mod Fields
pub mod Writers
pub mod Readers
-- the theorems, and worked examples
pub mod Theorems
pub mod Examples
pub mod TextExamples
