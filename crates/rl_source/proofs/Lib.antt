pub mod Progress
pub mod Seen
pub mod Listed
pub mod Found
