-- The laws of this crate. Assumes nothing.
pub mod Rounded
pub mod Single
pub mod Impostors
