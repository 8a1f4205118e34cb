pub mod Asking
pub mod Impostors
pub mod Single
