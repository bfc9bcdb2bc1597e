pub mod internal
pub mod Leavers
pub mod Passages
pub mod FallingNumbers
pub mod Chains
