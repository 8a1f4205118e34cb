-- What a scalar is: its type and its pattern; two of one type; refusal numbers. Assumes nothing.
pub mod Refusals
pub mod Answer
pub mod Pattern
pub mod Pair
pub mod Scalar
