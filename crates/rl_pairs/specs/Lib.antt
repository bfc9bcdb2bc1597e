pub mod LivePairs
pub mod PairGraph
pub mod Counted
pub mod Families
pub mod RightVerdict
pub mod Errors
pub mod PairTable
pub mod internal
