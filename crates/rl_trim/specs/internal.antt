-- Definitions for the contracts of private functions. No public contract reaches them.
pub mod Changing
pub mod Noting
pub mod Orders
pub mod Quick
pub mod Sunk
pub mod Trims
pub mod Twins
