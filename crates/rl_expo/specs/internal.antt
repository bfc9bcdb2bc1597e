-- Definitions for the contracts of private functions. No public contract reaches them.
pub mod Meeting
pub mod Blocks
pub mod Sides
pub mod Forks
pub mod Search
pub mod Dense
