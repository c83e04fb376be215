pub mod Rooms
-- the chain packed
pub mod Chains
-- the call
pub mod Ends
