-- Definitions for the contracts of private functions. No public contract uses them.
pub mod Words
pub mod PackedWords
