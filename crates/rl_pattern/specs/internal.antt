-- Definitions for the contracts of private functions. No public contract uses them.
pub mod Judged
pub mod LeafSets
pub mod Machine
pub mod Views
pub mod Meeting
pub mod Left
pub mod Answering
pub mod Signs
