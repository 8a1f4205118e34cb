-- Sums of products. Assumes nothing.
pub mod Products
