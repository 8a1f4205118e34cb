-- Scalars as operands and answers. Assumes nothing.
pub mod Scalars
