-- Definitions for the contracts of private functions. No public contract reaches them.
pub mod Compared
pub mod Made
pub mod Parsed
pub mod Plans
pub mod Reads
