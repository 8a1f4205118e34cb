-- The proof of the demand.
pub mod Asked
pub mod Amends
pub mod Meets
pub mod Calls
pub mod Example
