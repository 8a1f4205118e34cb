-- Each public contract of this crate permits one outcome for each call. Assumes nothing.
use mathlib.Core.Path.{sym, ◌∙◌}
use Rattle.integer.proofs.Single.{OneResult}
use Rattle.types.proofs.known.Kinds as known_kinds
use Rattle.types.proofs.known.Reads as known_reads
use Rattle.types.proofs.class.Kinds as class_kinds
use Rattle.types.proofs.class.Reads as class_reads
use Rattle.types.proofs.width.Kinds as width_kinds
use Rattle.types.proofs.width.Reads as width_reads
use Rattle.types.proofs.most.Kinds as most_kinds
use Rattle.types.proofs.most.Reads as most_reads
use Rattle.types.proofs.is_float.Kinds as is_float_kinds
use Rattle.types.proofs.is_float.Reads as is_float_reads
use Rattle.types.proofs.is_integer.Kinds as is_integer_kinds
use Rattle.types.proofs.is_integer.Reads as is_integer_reads
use Rattle.types.proofs.concrete.Kinds as concrete_kinds
use Rattle.types.proofs.concrete.Reads as concrete_reads
use Rattle.types.proofs.goes_to.Kinds as goes_to_kinds
use Rattle.types.proofs.goes_to.Reads as goes_to_reads
use Rattle.types.proofs.common.Kinds as common_kinds
use Rattle.types.proofs.common.Reads as common_reads
use Rattle.types.proofs.right.Kinds as right_kinds
use Rattle.types.proofs.right.Reads as right_reads
use Rattle.types.proofs.unary_right.Kinds as unary_right_kinds
use Rattle.types.proofs.unary_right.Reads as unary_right_reads
use Rattle.types.proofs.result_type.Kinds as result_type_kinds
use Rattle.types.proofs.result_type.Reads as result_type_reads

pub known_one : OneResult 0 known_kinds.ps known_kinds.r known_reads.Post
known_one κs a x y s t p q = p ∙ sym q

pub class_one : OneResult 0 class_kinds.ps class_kinds.r class_reads.Post
class_one κs a x y s t p q = p ∙ sym q

pub width_one : OneResult 0 width_kinds.ps width_kinds.r width_reads.Post
width_one κs a x y s t p q = p ∙ sym q

pub most_one : OneResult 0 most_kinds.ps most_kinds.r most_reads.Post
most_one κs a x y s t p q = p ∙ sym q

pub is_float_one : OneResult 0 is_float_kinds.ps is_float_kinds.r is_float_reads.Post
is_float_one κs a x y s t p q = p ∙ sym q

pub is_integer_one : OneResult 0 is_integer_kinds.ps is_integer_kinds.r is_integer_reads.Post
is_integer_one κs a x y s t p q = p ∙ sym q

pub concrete_one : OneResult 0 concrete_kinds.ps concrete_kinds.r concrete_reads.Post
concrete_one κs a x y s t p q = p ∙ sym q

pub goes_to_one : OneResult 0 goes_to_kinds.ps goes_to_kinds.r goes_to_reads.Post
goes_to_one κs a x y s t p q = p ∙ sym q

pub common_one : OneResult 0 common_kinds.ps common_kinds.r common_reads.Post
common_one κs a x y s t p q = p ∙ sym q

pub right_one : OneResult 0 right_kinds.ps right_kinds.r right_reads.Post
right_one κs a x y s t p q = p ∙ sym q

pub unary_right_one : OneResult 0 unary_right_kinds.ps unary_right_kinds.r unary_right_reads.Post
unary_right_one κs a x y s t p q = p ∙ sym q

pub result_type_one : OneResult 0 result_type_kinds.ps result_type_kinds.r result_type_reads.Post
result_type_one κs a x y s t p q = p ∙ sym q
