pub mod Escapes
pub mod Values
pub mod Runs
pub mod Quoting
pub mod Laws
