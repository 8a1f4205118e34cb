-- Each public contract of this crate permits one outcome for each call. Assumes nothing.
use Rattle.std.proofs.Common.{◌≡◌, ℕ, List, sym, ◌∙◌}
use contract.Lifetimes.{Lfts}
use denote.Triple.Clauses.{AtExit}
use borrow.Fn.Kinds.{ParamKind, ResultKind, Out, Dens, res_t, ended_of}
use Rattle.integer.proofs.wrapping.mul_u32.Kinds as mul_u32_kinds
use Rattle.integer.proofs.wrapping.mul_u32.Reads as mul_u32_reads
use Rattle.integer.proofs.wrapping.mul_i32.Kinds as mul_i32_kinds
use Rattle.integer.proofs.wrapping.mul_i32.Reads as mul_i32_reads

-- what a function may ensure leaves one result for each call
abbrev pub OneResult : (n : ℕ) (ps : List (ParamKind n)) (r : ResultKind n) → Out n ps r → Type 0
OneResult n ps r P = (κs : Lfts n) (a : Dens κs ps) (x y : (res_t r κs).Denot) (s t : AtExit (ended_of n ps r) κs) → P κs a x s → P κs a y t → x ≡ y

pub mul_u32 : OneResult 0 mul_u32_kinds.ps mul_u32_kinds.r mul_u32_reads.Post
mul_u32 κs a x y s t p q = p ∙ sym q

pub mul_i32 : OneResult 0 mul_i32_kinds.ps mul_i32_kinds.r mul_i32_reads.Post
mul_i32 κs a x y s t p q = p ∙ sym q
