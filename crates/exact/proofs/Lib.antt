-- The laws of this crate. Assumes nothing.
pub mod Product
pub mod Single
pub mod Impostors
