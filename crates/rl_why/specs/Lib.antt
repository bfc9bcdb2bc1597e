pub mod Shown
pub mod Loops
pub mod Readings
pub mod Again
pub mod internal
