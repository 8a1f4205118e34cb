-- The laws of this crate. Assumes nothing.
pub mod Places
pub mod Sums
pub mod Columns
pub mod Satisfies
pub mod Single
pub mod Impostors
