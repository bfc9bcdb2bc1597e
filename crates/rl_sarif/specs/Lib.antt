pub mod Keys
pub mod Known
pub mod Sarif
pub mod Baseline
pub mod Laws
pub mod internal
