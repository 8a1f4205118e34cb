-- The laws of this crate. Assumes nothing.
pub mod Arms
pub mod Impostors
pub mod Negated
pub mod Rounded
pub mod Single
