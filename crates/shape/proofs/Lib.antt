-- The laws of this crate. Assumes nothing.
pub mod Calls
pub mod OnScalars
pub mod Direct
pub mod Single
pub mod Cases
pub mod Impostors
