pub mod Live
pub mod Rows
pub mod Split
pub mod Rests
pub mod Walk
pub mod internal
