-- Operands and outcomes. Assumes nothing.
pub mod Operand
pub mod Outcome
