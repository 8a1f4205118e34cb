-- Each public contract permits one outcome for each call. Assumes nothing.
use Rattle.std.proofs.Common.{sym, ◌∙◌}
use Rattle.integer.proofs.Single.{OneResult}
use Rattle.rounding.proofs.patterns.finite_half.Kinds as finite_half_kinds
use Rattle.rounding.proofs.patterns.finite_half.Reads as finite_half_reads
use Rattle.rounding.proofs.widen.half_to_f32.Kinds as half_to_f32_kinds
use Rattle.rounding.proofs.widen.half_to_f32.Reads as half_to_f32_reads
use Rattle.rounding.proofs.narrow.f64_to_half.Kinds as f64_to_half_kinds
use Rattle.rounding.proofs.narrow.f64_to_half.Reads as f64_to_half_reads
use Rattle.rounding.proofs.narrow.f64_to_f32.Kinds as f64_to_f32_kinds
use Rattle.rounding.proofs.narrow.f64_to_f32.Reads as f64_to_f32_reads
use Rattle.rounding.proofs.narrow.f32_to_half.Kinds as f32_to_half_kinds
use Rattle.rounding.proofs.narrow.f32_to_half.Reads as f32_to_half_reads
use Rattle.rounding.proofs.narrow.i64_to_half.Kinds as i64_to_half_kinds
use Rattle.rounding.proofs.narrow.i64_to_half.Reads as i64_to_half_reads
use Rattle.rounding.proofs.narrow.i64_to_f32.Kinds as i64_to_f32_kinds
use Rattle.rounding.proofs.narrow.i64_to_f32.Reads as i64_to_f32_reads
use Rattle.rounding.proofs.narrow.i64_to_f64.Kinds as i64_to_f64_kinds
use Rattle.rounding.proofs.narrow.i64_to_f64.Reads as i64_to_f64_reads
use Rattle.rounding.proofs.floats.F32Float.nan.Kinds as f32_float_nan_kinds
use Rattle.rounding.proofs.floats.F32Float.nan.Reads as f32_float_nan_reads
use Rattle.rounding.proofs.floats.F32Float.is_nan.Kinds as f32_float_is_nan_kinds
use Rattle.rounding.proofs.floats.F32Float.is_nan.Reads as f32_float_is_nan_reads
use Rattle.rounding.proofs.floats.F32Float.is_finite.Kinds as f32_float_is_finite_kinds
use Rattle.rounding.proofs.floats.F32Float.is_finite.Reads as f32_float_is_finite_reads
use Rattle.rounding.proofs.floats.F32Float.bits.Kinds as f32_float_bits_kinds
use Rattle.rounding.proofs.floats.F32Float.bits.Reads as f32_float_bits_reads
use Rattle.rounding.proofs.floats.F32Float.of_bits.Kinds as f32_float_of_bits_kinds
use Rattle.rounding.proofs.floats.F32Float.of_bits.Reads as f32_float_of_bits_reads
use Rattle.rounding.proofs.floats.F32Float.plus.Kinds as f32_float_plus_kinds
use Rattle.rounding.proofs.floats.F32Float.plus.Reads as f32_float_plus_reads
use Rattle.rounding.proofs.floats.F32Float.minus.Kinds as f32_float_minus_kinds
use Rattle.rounding.proofs.floats.F32Float.minus.Reads as f32_float_minus_reads
use Rattle.rounding.proofs.floats.F32Float.times.Kinds as f32_float_times_kinds
use Rattle.rounding.proofs.floats.F32Float.times.Reads as f32_float_times_reads
use Rattle.rounding.proofs.floats.F32Float.over.Kinds as f32_float_over_kinds
use Rattle.rounding.proofs.floats.F32Float.over.Reads as f32_float_over_reads
use Rattle.rounding.proofs.floats.F64Float.nan.Kinds as f64_float_nan_kinds
use Rattle.rounding.proofs.floats.F64Float.nan.Reads as f64_float_nan_reads
use Rattle.rounding.proofs.floats.F64Float.is_nan.Kinds as f64_float_is_nan_kinds
use Rattle.rounding.proofs.floats.F64Float.is_nan.Reads as f64_float_is_nan_reads
use Rattle.rounding.proofs.floats.F64Float.is_finite.Kinds as f64_float_is_finite_kinds
use Rattle.rounding.proofs.floats.F64Float.is_finite.Reads as f64_float_is_finite_reads
use Rattle.rounding.proofs.floats.F64Float.bits.Kinds as f64_float_bits_kinds
use Rattle.rounding.proofs.floats.F64Float.bits.Reads as f64_float_bits_reads
use Rattle.rounding.proofs.floats.F64Float.of_bits.Kinds as f64_float_of_bits_kinds
use Rattle.rounding.proofs.floats.F64Float.of_bits.Reads as f64_float_of_bits_reads
use Rattle.rounding.proofs.floats.F64Float.plus.Kinds as f64_float_plus_kinds
use Rattle.rounding.proofs.floats.F64Float.plus.Reads as f64_float_plus_reads
use Rattle.rounding.proofs.floats.F64Float.minus.Kinds as f64_float_minus_kinds
use Rattle.rounding.proofs.floats.F64Float.minus.Reads as f64_float_minus_reads
use Rattle.rounding.proofs.floats.F64Float.times.Kinds as f64_float_times_kinds
use Rattle.rounding.proofs.floats.F64Float.times.Reads as f64_float_times_reads
use Rattle.rounding.proofs.floats.F64Float.over.Kinds as f64_float_over_kinds
use Rattle.rounding.proofs.floats.F64Float.over.Reads as f64_float_over_reads

pub finite_half_one : OneResult 0 finite_half_kinds.ps finite_half_kinds.r finite_half_reads.Post
finite_half_one κs a x y s t p q = p ∙ sym q

pub half_to_f32_one : OneResult 0 half_to_f32_kinds.ps half_to_f32_kinds.r half_to_f32_reads.Post
half_to_f32_one κs a x y s t p q = p ∙ sym q

pub f64_to_half_one : OneResult 0 f64_to_half_kinds.ps f64_to_half_kinds.r f64_to_half_reads.Post
f64_to_half_one κs a x y s t p q = p ∙ sym q

pub f64_to_f32_one : OneResult 0 f64_to_f32_kinds.ps f64_to_f32_kinds.r f64_to_f32_reads.Post
f64_to_f32_one κs a x y s t p q = p ∙ sym q

pub f32_to_half_one : OneResult 0 f32_to_half_kinds.ps f32_to_half_kinds.r f32_to_half_reads.Post
f32_to_half_one κs a x y s t p q = p ∙ sym q

pub i64_to_half_one : OneResult 0 i64_to_half_kinds.ps i64_to_half_kinds.r i64_to_half_reads.Post
i64_to_half_one κs a x y s t p q = p ∙ sym q

pub i64_to_f32_one : OneResult 0 i64_to_f32_kinds.ps i64_to_f32_kinds.r i64_to_f32_reads.Post
i64_to_f32_one κs a x y s t p q = p ∙ sym q

pub i64_to_f64_one : OneResult 0 i64_to_f64_kinds.ps i64_to_f64_kinds.r i64_to_f64_reads.Post
i64_to_f64_one κs a x y s t p q = p ∙ sym q

pub f32_float_nan_one : OneResult 0 f32_float_nan_kinds.ps f32_float_nan_kinds.r f32_float_nan_reads.Post
f32_float_nan_one κs a x y s t p q = p ∙ sym q

pub f32_float_is_nan_one : OneResult 0 f32_float_is_nan_kinds.ps f32_float_is_nan_kinds.r f32_float_is_nan_reads.Post
f32_float_is_nan_one κs a x y s t p q = p ∙ sym q

pub f32_float_is_finite_one : OneResult 0 f32_float_is_finite_kinds.ps f32_float_is_finite_kinds.r f32_float_is_finite_reads.Post
f32_float_is_finite_one κs a x y s t p q = p ∙ sym q

pub f32_float_bits_one : OneResult 0 f32_float_bits_kinds.ps f32_float_bits_kinds.r f32_float_bits_reads.Post
f32_float_bits_one κs a x y s t p q = p.0 ∙ sym q.0

pub f32_float_of_bits_one : OneResult 0 f32_float_of_bits_kinds.ps f32_float_of_bits_kinds.r f32_float_of_bits_reads.Post
f32_float_of_bits_one κs a x y s t p q = p ∙ sym q

pub f32_float_plus_one : OneResult 0 f32_float_plus_kinds.ps f32_float_plus_kinds.r f32_float_plus_reads.Post
f32_float_plus_one κs a x y s t p q = p ∙ sym q

pub f32_float_minus_one : OneResult 0 f32_float_minus_kinds.ps f32_float_minus_kinds.r f32_float_minus_reads.Post
f32_float_minus_one κs a x y s t p q = p ∙ sym q

pub f32_float_times_one : OneResult 0 f32_float_times_kinds.ps f32_float_times_kinds.r f32_float_times_reads.Post
f32_float_times_one κs a x y s t p q = p ∙ sym q

pub f32_float_over_one : OneResult 0 f32_float_over_kinds.ps f32_float_over_kinds.r f32_float_over_reads.Post
f32_float_over_one κs a x y s t p q = p ∙ sym q

pub f64_float_nan_one : OneResult 0 f64_float_nan_kinds.ps f64_float_nan_kinds.r f64_float_nan_reads.Post
f64_float_nan_one κs a x y s t p q = p ∙ sym q

pub f64_float_is_nan_one : OneResult 0 f64_float_is_nan_kinds.ps f64_float_is_nan_kinds.r f64_float_is_nan_reads.Post
f64_float_is_nan_one κs a x y s t p q = p ∙ sym q

pub f64_float_is_finite_one : OneResult 0 f64_float_is_finite_kinds.ps f64_float_is_finite_kinds.r f64_float_is_finite_reads.Post
f64_float_is_finite_one κs a x y s t p q = p ∙ sym q

pub f64_float_bits_one : OneResult 0 f64_float_bits_kinds.ps f64_float_bits_kinds.r f64_float_bits_reads.Post
f64_float_bits_one κs a x y s t p q = p.0 ∙ sym q.0

pub f64_float_of_bits_one : OneResult 0 f64_float_of_bits_kinds.ps f64_float_of_bits_kinds.r f64_float_of_bits_reads.Post
f64_float_of_bits_one κs a x y s t p q = p ∙ sym q

pub f64_float_plus_one : OneResult 0 f64_float_plus_kinds.ps f64_float_plus_kinds.r f64_float_plus_reads.Post
f64_float_plus_one κs a x y s t p q = p ∙ sym q

pub f64_float_minus_one : OneResult 0 f64_float_minus_kinds.ps f64_float_minus_kinds.r f64_float_minus_reads.Post
f64_float_minus_one κs a x y s t p q = p ∙ sym q

pub f64_float_times_one : OneResult 0 f64_float_times_kinds.ps f64_float_times_kinds.r f64_float_times_reads.Post
f64_float_times_one κs a x y s t p q = p ∙ sym q

pub f64_float_over_one : OneResult 0 f64_float_over_kinds.ps f64_float_over_kinds.r f64_float_over_reads.Post
f64_float_over_one κs a x y s t p q = p ∙ sym q
