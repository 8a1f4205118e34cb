-- The laws of this crate. Assumes nothing.
pub mod Choice
pub mod Rows
pub mod Goes
pub mod Table
pub mod Bounds
pub mod Editions
pub mod Single
pub mod Impostors
