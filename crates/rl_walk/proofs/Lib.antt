pub mod Paths
pub mod Order
pub mod Doing
pub mod Same
pub mod Determined
