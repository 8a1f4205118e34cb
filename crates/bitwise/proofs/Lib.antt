-- The laws of this crate. Assumes nothing.
pub mod Impostors
pub mod Single
