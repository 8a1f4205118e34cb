-- The laws: reader and writer are inverse, a setting's bytes can be replaced in place, and which bytes decide a refusal.
pub mod Lying
pub mod ReadBack
pub mod Nodes
pub mod Accepted
pub mod Settled
pub mod Replaced
pub mod Inverse
pub mod Looked
pub mod Alike
pub mod Follows
pub mod Bytes
pub mod Impostors
