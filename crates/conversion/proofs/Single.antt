-- Each public contract of this crate permits one outcome for each call. Assumes nothing.
use mathlib.Core.Path.{sym, ◌∙◌}
use Rattle.integer.proofs.Single.{OneResult}
use Rattle.conversion.proofs.convert.convert.Kinds as convert_kinds
use Rattle.conversion.proofs.convert.convert.Reads as convert_reads
use Rattle.conversion.proofs.common.pair.Kinds as pair_kinds
use Rattle.conversion.proofs.common.pair.Reads as Pair-reads
use Rattle.conversion.proofs.common.common.Kinds as common_kinds
use Rattle.conversion.proofs.common.common.Reads as common_reads

pub convert_one : OneResult 0 convert_kinds.ps convert_kinds.r convert_reads.Post
convert_one κs a x y s t p q = p ∙ sym q

pub pair_one : OneResult 0 pair_kinds.ps pair_kinds.r Pair-reads.Post
pair_one κs a x y s t p q = p ∙ sym q

pub common_one : OneResult 0 common_kinds.ps common_kinds.r common_reads.Post
common_one κs a x y s t p q = p ∙ sym q
