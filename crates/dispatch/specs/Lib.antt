-- What an operator gives. Assumes nothing.
pub mod Meaning
