-- what the functions cite
pub mod Ended
