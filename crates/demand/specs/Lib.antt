-- The demand on a change, stated over bytes.
pub mod Demand
