-- The laws of this crate. Assumes nothing.
pub mod Places
pub mod Traverse
pub mod Turns
pub mod Satisfies
pub mod Single
pub mod Impostors
