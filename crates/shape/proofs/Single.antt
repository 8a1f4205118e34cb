-- Each public call: any two outcomes that its contract permits coincide. Assumes nothing.
use mathlib.Core.Path.{sym, ◌∙◌}
use Rattle.integer.proofs.Single.{OneResult}
use Rattle.shape.proofs.unary_scalar.Kinds as unary_scalar_kinds
use Rattle.shape.proofs.unary_scalar.Reads as unary_scalar_reads
use Rattle.shape.proofs.unary.Kinds as unary_kinds
use Rattle.shape.proofs.unary.Reads as unary_reads
use Rattle.shape.proofs.binary_scalars.Kinds as binary_scalars_kinds
use Rattle.shape.proofs.binary_scalars.Reads as binary_scalars_reads
use Rattle.shape.proofs.binary.Kinds as binary_kinds
use Rattle.shape.proofs.binary.Reads as binary_reads

pub unary_scalar_one : OneResult 0 unary_scalar_kinds.ps unary_scalar_kinds.r unary_scalar_reads.Post
unary_scalar_one κs a x y s t p q = p ∙ sym q

pub unary_one : OneResult 0 unary_kinds.ps unary_kinds.r unary_reads.Post
unary_one κs a x y s t p q = p ∙ sym q

pub binary_scalars_one : OneResult 0 binary_scalars_kinds.ps binary_scalars_kinds.r binary_scalars_reads.Post
binary_scalars_one κs a x y s t p q = p ∙ sym q

pub binary_one : OneResult 0 binary_kinds.ps binary_kinds.r binary_reads.Post
binary_one κs a x y s t p q = p ∙ sym q
