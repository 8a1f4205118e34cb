-- Laws of whole numbers, over h, and of a kind's patterns.
pub mod Steps
pub mod Patterns
