-- what the inner functions cite
pub mod Over
