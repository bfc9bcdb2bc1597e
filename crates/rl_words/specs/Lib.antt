pub mod Call
pub mod Command
pub mod Values
pub mod Given
pub mod Usage
pub mod internal
