-- Definitions for the contracts of private functions. No public contract reaches them.
pub mod Kernel
pub mod Groups
pub mod Entries
pub mod FallingPairs
pub mod Pairs
pub mod Moves
pub mod Reached
pub mod Rows
pub mod Splits
pub mod Ranks
pub mod Greatest
