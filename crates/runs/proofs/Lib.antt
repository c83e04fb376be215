-- the end of a call, and a replacement by its checks and its work
pub mod Ends
pub mod Replaced
-- new weights
pub mod Reweighed
-- a fresh run, a new core, a new axis record: what their checks let them ask, and their ends
pub mod Accepts
pub mod Renewals
pub mod Fresh
