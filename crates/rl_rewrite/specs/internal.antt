-- Definitions for the contracts of private functions. No public contract reaches them.
pub mod Choices
pub mod Holes
pub mod Keeping
pub mod LeftLists
pub mod Merges
pub mod Trials
