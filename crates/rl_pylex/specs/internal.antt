-- Definitions for the contracts of private functions. No public contract reaches them.
pub mod Bodies
pub mod Rows
pub mod Absence
pub mod Blocks
