-- Definitions for the contracts of private functions. No public contract reaches them.
pub mod Machines
pub mod Walks
pub mod Searching
pub mod Index
