-- The laws of this crate. Assumes nothing.
pub mod Called
pub mod Without
pub mod Widths
pub mod Sound
pub mod Single
pub mod Impostors
