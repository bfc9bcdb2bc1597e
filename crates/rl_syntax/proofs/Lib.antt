pub mod RunLaws
pub mod TreeSizes
pub mod PartSizes
pub mod TreeJoins
pub mod PartJoins
pub mod BodyOver
pub mod SetTests
pub mod Stars
pub mod Places
pub mod Guardless
mod Rows
