-- Which shapes and types an operator takes. Assumes nothing.
pub mod Pairing
