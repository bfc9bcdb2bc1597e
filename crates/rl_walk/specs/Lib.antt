pub mod Children
pub mod Steps
pub mod Visits
pub mod OneWalk
pub mod internal
