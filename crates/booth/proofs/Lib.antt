pub mod Operands
pub mod Settled
pub mod Marked
pub mod Bounds
pub mod Packed
pub mod Single
pub mod Impostors
