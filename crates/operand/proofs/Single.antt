-- Each public call: any two outcomes that its contract permits coincide. Assumes nothing.
use mathlib.Core.Path.{sym, ◌∙◌}
use Rattle.integer.proofs.Single.{OneResult}
use Rattle.operand.proofs.Instance.shape.Kinds as shape_kinds
use Rattle.operand.proofs.Instance.shape.Reads as shape_reads
use Rattle.operand.proofs.refused.Kinds as refused_kinds
use Rattle.operand.proofs.refused.Reads as refused_reads
use Rattle.operand.proofs.scalar.Kinds as scalar_kinds
use Rattle.operand.proofs.scalar.Reads as scalar_reads
use Rattle.operand.proofs.refused_as.Kinds as refused_as_kinds
use Rattle.operand.proofs.refused_as.Reads as refused_as_reads
use Rattle.operand.proofs.answered.Kinds as answered_kinds
use Rattle.operand.proofs.answered.Reads as answered_reads
use Rattle.operand.proofs.shape_ok.Kinds as shape_ok_kinds
use Rattle.operand.proofs.shape_ok.Reads as shape_ok_reads
use Rattle.operand.proofs.is_scalar.Kinds as is_scalar_kinds
use Rattle.operand.proofs.is_scalar.Reads as is_scalar_reads
use Rattle.operand.proofs.is_vector.Kinds as is_vector_kinds
use Rattle.operand.proofs.is_vector.Reads as is_vector_reads
use Rattle.operand.proofs.is_matrix.Kinds as is_matrix_kinds
use Rattle.operand.proofs.is_matrix.Reads as is_matrix_reads
use Rattle.operand.proofs.count.Kinds as count_kinds
use Rattle.operand.proofs.count.Reads as count_reads
use Rattle.operand.proofs.formed.Kinds as formed_kinds
use Rattle.operand.proofs.formed.Reads as formed_reads

pub shape_one : OneResult 1 shape_kinds.ps shape_kinds.r shape_reads.Post
shape_one κs a x y s t p q = p ∙ sym q

pub refused_one : OneResult 0 refused_kinds.ps refused_kinds.r refused_reads.Post
refused_one κs a x y s t p q = p ∙ sym q

pub scalar_one : OneResult 0 scalar_kinds.ps scalar_kinds.r scalar_reads.Post
scalar_one κs a x y s t p q = p ∙ sym q

pub refused_as_one : OneResult 0 refused_as_kinds.ps refused_as_kinds.r refused_as_reads.Post
refused_as_one κs a x y s t p q = p ∙ sym q

pub answered_one : OneResult 0 answered_kinds.ps answered_kinds.r answered_reads.Post
answered_one κs a x y s t p q = p ∙ sym q

pub shape_ok_one : OneResult 0 shape_ok_kinds.ps shape_ok_kinds.r shape_ok_reads.Post
shape_ok_one κs a x y s t p q = p ∙ sym q

pub is_scalar_one : OneResult 0 is_scalar_kinds.ps is_scalar_kinds.r is_scalar_reads.Post
is_scalar_one κs a x y s t p q = p ∙ sym q

pub is_vector_one : OneResult 0 is_vector_kinds.ps is_vector_kinds.r is_vector_reads.Post
is_vector_one κs a x y s t p q = p ∙ sym q

pub is_matrix_one : OneResult 0 is_matrix_kinds.ps is_matrix_kinds.r is_matrix_reads.Post
is_matrix_one κs a x y s t p q = p ∙ sym q

pub count_one : OneResult 0 count_kinds.ps count_kinds.r count_reads.Post
count_one κs a x y s t p q = p ∙ sym q

pub formed_one : OneResult 1 formed_kinds.ps formed_kinds.r formed_reads.Post
formed_one κs a x y s t p q = p ∙ sym q
