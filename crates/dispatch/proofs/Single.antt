-- Each public call: any two outcomes that its contract permits coincide. Assumes nothing.
use mathlib.Core.Path.{sym, ◌∙◌}
use Rattle.integer.proofs.Single.{OneResult}
use Rattle.dispatch.proofs.judge.Kinds as judge_kinds
use Rattle.dispatch.proofs.judge.Reads as judge_reads
use Rattle.dispatch.proofs.unary_judge.Kinds as unary_judge_kinds
use Rattle.dispatch.proofs.unary_judge.Reads as unary_judge_reads

pub judge_one : OneResult 2 judge_kinds.ps judge_kinds.r judge_reads.Post
judge_one κs a x y s t p q = p ∙ sym q

pub unary_judge_one : OneResult 1 unary_judge_kinds.ps unary_judge_kinds.r unary_judge_reads.Post
unary_judge_one κs a x y s t p q = p ∙ sym q
