pub mod Chains
pub mod Places
pub mod Turning
pub mod Single
pub mod Impostors
