-- The laws of this crate, each stated once over the width. Assumes nothing.
pub mod Division
pub mod Single
pub mod Impostors
