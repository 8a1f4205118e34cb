-- The entries of a sheet by their numbers, which of them depend on which, and where their records lie.
pub mod Entries
pub mod Depend
pub mod Records
pub mod Inside
