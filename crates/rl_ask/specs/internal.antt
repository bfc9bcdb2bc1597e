-- Definitions for the contracts of private functions. No public contract reaches them.
pub mod Limits
pub mod Long
pub mod Reads
pub mod Replied
pub mod Sizes
