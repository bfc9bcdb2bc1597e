pub mod ActionLemmas
pub mod CommandLemmas
pub mod DoubtfulWords
pub mod GivenLemmas
pub mod ValueLemmas
