-- The laws of this crate. Assumes nothing.
pub mod Checks
pub mod Answers
pub mod Converted
pub mod Outcomes
pub mod Stands
pub mod Multiplied
pub mod Single
pub mod Impostors
