pub mod Faults
pub mod Analysis
pub mod RightEntries
pub mod RightReport
pub mod internal
