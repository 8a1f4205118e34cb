-- The laws of this crate. Assumes nothing.
pub mod Every
pub mod Shapes
pub mod Answers
pub mod Single
pub mod Impostors
