pub mod Members
pub mod Sets
pub mod Nodes
pub mod Reply
