pub mod Packed
pub mod Rows
pub mod Runs
pub mod Tables
pub mod internal
