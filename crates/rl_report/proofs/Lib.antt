pub mod PlaceLemmas
mod FamilyLemmas
mod LineLemmas
pub mod Ascii
mod CountLemmas
mod ValueLemmas
mod NoFloats
mod PartLemmas
