-- The laws of this crate. Assumes nothing.
pub mod Steps
pub mod Added
pub mod Keeps
pub mod Promises
pub mod Rights
pub mod Reread
pub mod Righted
pub mod Carried
pub mod Operators
pub mod Nans
pub mod Single
pub mod Impostors
pub mod Codes
