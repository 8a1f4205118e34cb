pub mod Fresh
pub mod Change
pub mod Demand
pub mod Inside
