pub mod Questions
pub mod Routes
pub mod FamilyWords
pub mod Texts
pub mod Degrees
