pub mod Strips
pub mod Plainly
-- for the code: columns of which two were turned
pub mod TwoColumns
