pub mod Bytes
pub mod Literals
pub mod Coding
pub mod Rules
pub mod Source
pub mod Laws
pub mod internal
