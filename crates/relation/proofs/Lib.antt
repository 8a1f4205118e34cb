-- The laws of this crate. Assumes nothing.
pub mod Relations
pub mod Refused
pub mod Impostors
pub mod Single
