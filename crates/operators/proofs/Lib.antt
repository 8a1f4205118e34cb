-- The laws of this crate. Assumes nothing.
pub mod Scalars
pub mod Single
