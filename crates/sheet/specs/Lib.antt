-- The definitions that the contracts cite, from a node up to the sheet.
pub mod Tree
pub mod Stage
pub mod Node
pub mod Record
pub mod Sheet
pub mod Accepted
