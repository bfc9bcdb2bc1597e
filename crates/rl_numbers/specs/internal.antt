-- Definitions for the contracts of private functions. No public contract reaches them.
pub mod Diagonal
pub mod Inner
pub mod DoubledFalls
pub mod NumberedFalls
pub mod Spreading
pub mod ReachedTriples
pub mod ReachedDoubles
