-- Definitions for the contracts of private functions, here and in `rl_spans`. No public contract reaches them.
pub mod Caps
pub mod MarkItems
pub mod Walk
pub mod Threads
pub mod Seeking
pub mod Parts
pub mod Pairs
pub mod PairLetters
pub mod Runs
