pub mod Evaluated
pub mod Changes
pub mod Steps
pub mod Answers
pub mod Theorems
pub mod Formed
pub mod Impostors
pub mod Single
