-- Laws for the judges of records. Assumes nothing.
pub mod Tests
pub mod Same
pub mod Records
pub mod Codes
pub mod Operands
pub mod Single
pub mod Impostors
