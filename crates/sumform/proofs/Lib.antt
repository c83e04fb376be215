pub mod Signs
pub mod Units
pub mod Examples
pub mod Edges
pub mod StartByHand
