pub mod Spelling
pub mod Split
