-- The laws of this crate. Assumes nothing.
pub mod Picks
pub mod Meets
pub mod Single
pub mod Impostors
