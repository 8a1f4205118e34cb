-- The laws of the definitions, and what follows from them for whoever builds on this crate.
pub mod Components
pub mod Nodes
pub mod Inverse
pub mod Records
pub mod Sheets
pub mod Passes
pub mod Accepted
pub mod Sound
pub mod Single
pub mod Example
pub mod Impostors
