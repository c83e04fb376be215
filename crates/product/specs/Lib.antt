pub mod ContractLoops
pub mod Lent
