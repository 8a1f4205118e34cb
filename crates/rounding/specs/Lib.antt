-- Definitions: what a reader has to believe. Pack alone is a helper of the private routines.
pub mod Kind
pub mod Arithmetic
pub mod Bits
pub mod Nearest
pub mod Rounded
pub mod Pack
