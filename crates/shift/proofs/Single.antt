-- Each public contract of this crate permits one outcome for each call. Assumes nothing.
use mathlib.Core.Path.{sym, ◌∙◌}
use Rattle.integer.proofs.Single.{OneResult}
use Rattle.shift.proofs.shl_i32.Kinds as shl_i32_kinds
use Rattle.shift.proofs.shl_i32.Reads as shl_i32_reads
use Rattle.shift.proofs.shl_u32.Kinds as shl_u32_kinds
use Rattle.shift.proofs.shl_u32.Reads as shl_u32_reads
use Rattle.shift.proofs.shl_i64.Kinds as shl_i64_kinds
use Rattle.shift.proofs.shl_i64.Reads as shl_i64_reads
use Rattle.shift.proofs.shl_wrapping_i32.Kinds as shl_wrapping_i32_kinds
use Rattle.shift.proofs.shl_wrapping_i32.Reads as shl_wrapping_i32_reads
use Rattle.shift.proofs.shl_wrapping_u32.Kinds as shl_wrapping_u32_kinds
use Rattle.shift.proofs.shl_wrapping_u32.Reads as shl_wrapping_u32_reads
use Rattle.shift.proofs.shl_wrapping_i64.Kinds as shl_wrapping_i64_kinds
use Rattle.shift.proofs.shl_wrapping_i64.Reads as shl_wrapping_i64_reads
use Rattle.shift.proofs.shr_i32.Kinds as shr_i32_kinds
use Rattle.shift.proofs.shr_i32.Reads as shr_i32_reads
use Rattle.shift.proofs.shr_u32.Kinds as shr_u32_kinds
use Rattle.shift.proofs.shr_u32.Reads as shr_u32_reads
use Rattle.shift.proofs.shr_i64.Kinds as shr_i64_kinds
use Rattle.shift.proofs.shr_i64.Reads as shr_i64_reads

pub shl_i32 : OneResult 0 shl_i32_kinds.ps shl_i32_kinds.r shl_i32_reads.Post
shl_i32 κs a x y s t p q = p ∙ sym q

pub shl_u32 : OneResult 0 shl_u32_kinds.ps shl_u32_kinds.r shl_u32_reads.Post
shl_u32 κs a x y s t p q = p ∙ sym q

pub shl_i64 : OneResult 0 shl_i64_kinds.ps shl_i64_kinds.r shl_i64_reads.Post
shl_i64 κs a x y s t p q = p ∙ sym q

pub shl_wrapping_i32 : OneResult 0 shl_wrapping_i32_kinds.ps shl_wrapping_i32_kinds.r shl_wrapping_i32_reads.Post
shl_wrapping_i32 κs a x y s t p q = p ∙ sym q

pub shl_wrapping_u32 : OneResult 0 shl_wrapping_u32_kinds.ps shl_wrapping_u32_kinds.r shl_wrapping_u32_reads.Post
shl_wrapping_u32 κs a x y s t p q = p ∙ sym q

pub shl_wrapping_i64 : OneResult 0 shl_wrapping_i64_kinds.ps shl_wrapping_i64_kinds.r shl_wrapping_i64_reads.Post
shl_wrapping_i64 κs a x y s t p q = p ∙ sym q

pub shr_i32 : OneResult 0 shr_i32_kinds.ps shr_i32_kinds.r shr_i32_reads.Post
shr_i32 κs a x y s t p q = p ∙ sym q

pub shr_u32 : OneResult 0 shr_u32_kinds.ps shr_u32_kinds.r shr_u32_reads.Post
shr_u32 κs a x y s t p q = p ∙ sym q

pub shr_i64 : OneResult 0 shr_i64_kinds.ps shr_i64_kinds.r shr_i64_reads.Post
shr_i64 κs a x y s t p q = p ∙ sym q
