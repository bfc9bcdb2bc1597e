pub mod Inside
pub mod Plain
