-- Definitions for the contracts of private functions. No public contract reaches them.
pub mod Moves
pub mod Search
pub mod Steps
