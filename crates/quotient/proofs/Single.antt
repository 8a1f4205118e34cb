-- Each public contract of this crate permits one outcome for each call. Assumes nothing.
use mathlib.Core.Path.{sym, ◌∙◌}
use Rattle.integer.proofs.Single.{OneResult}
use Rattle.quotient.proofs.div_i32.Kinds as div_i32_kinds
use Rattle.quotient.proofs.div_i32.Reads as div_i32_reads
use Rattle.quotient.proofs.rem_i32.Kinds as rem_i32_kinds
use Rattle.quotient.proofs.rem_i32.Reads as rem_i32_reads
use Rattle.quotient.proofs.div_i64.Kinds as div_i64_kinds
use Rattle.quotient.proofs.div_i64.Reads as div_i64_reads
use Rattle.quotient.proofs.rem_i64.Kinds as rem_i64_kinds
use Rattle.quotient.proofs.rem_i64.Reads as rem_i64_reads

pub div_i32 : OneResult 0 div_i32_kinds.ps div_i32_kinds.r div_i32_reads.Post
div_i32 κs a x y s t p q = p ∙ sym q

pub rem_i32 : OneResult 0 rem_i32_kinds.ps rem_i32_kinds.r rem_i32_reads.Post
rem_i32 κs a x y s t p q = p ∙ sym q

pub div_i64 : OneResult 0 div_i64_kinds.ps div_i64_kinds.r div_i64_reads.Post
div_i64 κs a x y s t p q = p ∙ sym q

pub rem_i64 : OneResult 0 rem_i64_kinds.ps rem_i64_kinds.r rem_i64_reads.Post
rem_i64 κs a x y s t p q = p ∙ sym q
