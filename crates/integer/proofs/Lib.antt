-- The laws of this crate, each stated once over the width. Assumes nothing.
pub mod Order
pub mod Pattern
pub mod Equal
pub mod Range
pub mod Residue
pub mod Wrap
pub mod Single
pub mod Impostors
