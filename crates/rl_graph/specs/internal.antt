-- Definitions for the contracts of private functions. No public contract reaches them.
pub mod Search
pub mod InnerMoves
pub mod Nodes
pub mod Marked
pub mod Halves
pub mod Dense
pub mod GrownRows
