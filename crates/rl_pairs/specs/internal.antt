-- Definitions for the contracts of private functions. No public contract reaches them.
pub mod Counting
pub mod Errors
pub mod Finding
pub mod Rows
