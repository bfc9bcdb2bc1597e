pub mod Words
pub mod Keys
pub mod Values
pub mod Questions
pub mod Reading
