pub mod DocumentLemmas
pub mod DoubtfulFiles
pub mod KeyLemmas
