-- Each public call: any two outcomes that its contract permits coincide. Assumes nothing.
use mathlib.Core.Path.{sym, ◌∙◌}
pub use Rattle.integer.proofs.Single.{OneResult}
use Rattle.components.proofs.entry.Kinds as entry_kinds
use Rattle.components.proofs.entry.Reads as entry_reads
use Rattle.components.proofs.steps.Kinds as steps_kinds
use Rattle.components.proofs.steps.Reads as steps_reads
use Rattle.components.proofs.unary_steps.Kinds as unary_steps_kinds
use Rattle.components.proofs.unary_steps.Reads as unary_steps_reads
use Rattle.components.proofs.converted.Kinds as converted_kinds
use Rattle.components.proofs.converted.Reads as converted_reads

pub entry_one : OneResult 1 entry_kinds.ps entry_kinds.r entry_reads.Post
entry_one κs a x y s t p q = p ∙ sym q

pub steps_one : OneResult 2 steps_kinds.ps steps_kinds.r steps_reads.Post
steps_one κs a x y s t p q = p ∙ sym q

pub unary_steps_one : OneResult 1 unary_steps_kinds.ps unary_steps_kinds.r unary_steps_reads.Post
unary_steps_one κs a x y s t p q = p ∙ sym q

pub converted_one : OneResult 1 converted_kinds.ps converted_kinds.r converted_reads.Post
converted_one κs a x y s t p q = p ∙ sym q
