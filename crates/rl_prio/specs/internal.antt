-- Definitions for the contracts of private functions. No public contract reaches them.
pub mod Attempts
pub mod Errors
pub mod GuardSets
pub mod Plans
pub mod Rows
