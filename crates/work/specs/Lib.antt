pub mod Meaning
pub mod Inside
