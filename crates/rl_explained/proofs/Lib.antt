pub mod Plain
pub mod SplitLists
