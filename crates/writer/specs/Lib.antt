-- The definitions: entries as bytes, which entries can be written, and what is claimed of reader, writer and refusals.
pub mod Write
pub mod Claims
pub mod Refused
