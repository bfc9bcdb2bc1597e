pub mod Answers
pub mod Causes
pub mod Limits
pub mod Sights
pub mod internal
