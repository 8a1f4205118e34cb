-- Each public contract of this crate permits one outcome for each call. Assumes nothing.
use mathlib.Core.Path.{sym, ◌∙◌}
use Rattle.integer.proofs.Single.{OneResult}
use Rattle.exact.proofs.add_i64.Kinds as add_i64_kinds
use Rattle.exact.proofs.add_i64.Reads as add_i64_reads
use Rattle.exact.proofs.sub_i64.Kinds as sub_i64_kinds
use Rattle.exact.proofs.sub_i64.Reads as sub_i64_reads
use Rattle.exact.proofs.mul_i64.Kinds as mul_i64_kinds
use Rattle.exact.proofs.mul_i64.Reads as mul_i64_reads

pub add_i64 : OneResult 0 add_i64_kinds.ps add_i64_kinds.r add_i64_reads.Post
add_i64 κs a x y s t p q = p ∙ sym q

pub sub_i64 : OneResult 0 sub_i64_kinds.ps sub_i64_kinds.r sub_i64_reads.Post
sub_i64 κs a x y s t p q = p ∙ sym q

pub mul_i64 : OneResult 0 mul_i64_kinds.ps mul_i64_kinds.r mul_i64_reads.Post
mul_i64 κs a x y s t p q = p ∙ sym q
