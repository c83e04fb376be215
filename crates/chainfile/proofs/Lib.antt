-- header and table
pub mod Headers
pub mod Tables
-- the numbers, and the two calls
pub mod Bodies
pub mod Accepts
pub mod Makes
