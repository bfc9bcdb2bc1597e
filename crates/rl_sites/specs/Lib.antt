pub mod Significant
pub mod Imports
pub mod Names
pub mod Arguments
pub mod Flags
pub mod Sites
pub mod Runs
pub mod internal
