-- Definitions for the contracts of private functions. No public contract reaches them.
pub mod Sources
pub mod Paths
pub mod Numbers
pub mod Settings
