pub mod Verdicts
pub mod RightSuggestion
pub mod Settled
pub mod Plain
pub mod internal
