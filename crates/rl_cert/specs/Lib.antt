pub mod Numbered
pub mod Ways
pub mod Accepting
pub mod Holds
pub mod TooLarge
pub mod Form
pub mod internal
