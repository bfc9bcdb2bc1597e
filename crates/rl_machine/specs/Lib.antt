pub mod Counts
pub mod Columns
