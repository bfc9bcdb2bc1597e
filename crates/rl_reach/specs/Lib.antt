pub mod Behind
pub mod Places
pub mod Bounds
pub mod internal
