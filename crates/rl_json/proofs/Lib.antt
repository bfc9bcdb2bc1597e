pub mod LineEnd
pub mod Writable
pub mod NoFloats
