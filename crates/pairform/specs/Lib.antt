pub mod Columns
pub mod Slabs
pub mod Passes
pub mod PassClaims
pub mod Numbers
pub mod Splits
pub mod SplitClaims
pub mod Call
