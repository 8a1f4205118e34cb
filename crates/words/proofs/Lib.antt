pub mod Spellings
pub mod Splits
pub mod Impostors
pub mod Single
