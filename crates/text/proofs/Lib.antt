pub mod Pieces
pub mod Digits
pub mod Lists
pub mod Impostors
pub mod Single
