pub mod Members
pub mod Seats
pub mod Inner
pub mod internal
