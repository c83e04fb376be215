pub mod ByHand
pub mod AtTheEdge
