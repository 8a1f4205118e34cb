-- Each public call: any two outcomes that its contract permits coincide. Assumes nothing.
use mathlib.Core.Path.{sym, ◌∙◌}
use Rattle.integer.proofs.Single.{OneResult}
use Rattle.operators.proofs.op_not.Kinds as op_not_kinds
use Rattle.operators.proofs.op_not.Reads as op_not_reads
use Rattle.operators.proofs.op_neg.Kinds as op_neg_kinds
use Rattle.operators.proofs.op_neg.Reads as op_neg_reads
use Rattle.operators.proofs.op_bitnot.Kinds as op_bitnot_kinds
use Rattle.operators.proofs.op_bitnot.Reads as op_bitnot_reads
use Rattle.operators.proofs.op_or.Kinds as op_or_kinds
use Rattle.operators.proofs.op_or.Reads as op_or_reads
use Rattle.operators.proofs.op_and.Kinds as op_and_kinds
use Rattle.operators.proofs.op_and.Reads as op_and_reads
use Rattle.operators.proofs.op_add.Kinds as op_add_kinds
use Rattle.operators.proofs.op_add.Reads as op_add_reads
use Rattle.operators.proofs.op_sub.Kinds as op_sub_kinds
use Rattle.operators.proofs.op_sub.Reads as op_sub_reads
use Rattle.operators.proofs.op_mul.Kinds as op_mul_kinds
use Rattle.operators.proofs.op_mul.Reads as op_mul_reads
use Rattle.operators.proofs.op_div.Kinds as op_div_kinds
use Rattle.operators.proofs.op_div.Reads as op_div_reads
use Rattle.operators.proofs.op_rem.Kinds as op_rem_kinds
use Rattle.operators.proofs.op_rem.Reads as op_rem_reads
use Rattle.operators.proofs.op_eq.Kinds as op_eq_kinds
use Rattle.operators.proofs.op_eq.Reads as op_eq_reads
use Rattle.operators.proofs.op_ne.Kinds as op_ne_kinds
use Rattle.operators.proofs.op_ne.Reads as op_ne_reads
use Rattle.operators.proofs.op_lt.Kinds as op_lt_kinds
use Rattle.operators.proofs.op_lt.Reads as op_lt_reads
use Rattle.operators.proofs.op_le.Kinds as op_le_kinds
use Rattle.operators.proofs.op_le.Reads as op_le_reads
use Rattle.operators.proofs.op_gt.Kinds as op_gt_kinds
use Rattle.operators.proofs.op_gt.Reads as op_gt_reads
use Rattle.operators.proofs.op_ge.Kinds as op_ge_kinds
use Rattle.operators.proofs.op_ge.Reads as op_ge_reads
use Rattle.operators.proofs.op_bitor.Kinds as op_bitor_kinds
use Rattle.operators.proofs.op_bitor.Reads as op_bitor_reads
use Rattle.operators.proofs.op_bitand.Kinds as op_bitand_kinds
use Rattle.operators.proofs.op_bitand.Reads as op_bitand_reads
use Rattle.operators.proofs.op_bitxor.Kinds as op_bitxor_kinds
use Rattle.operators.proofs.op_bitxor.Reads as op_bitxor_reads
use Rattle.operators.proofs.op_shl.Kinds as op_shl_kinds
use Rattle.operators.proofs.op_shl.Reads as op_shl_reads
use Rattle.operators.proofs.op_shr.Kinds as op_shr_kinds
use Rattle.operators.proofs.op_shr.Reads as op_shr_reads

pub op_not_one : OneResult 0 op_not_kinds.ps op_not_kinds.r op_not_reads.Post
op_not_one κs a x y s t p q = p ∙ sym q

pub op_neg_one : OneResult 0 op_neg_kinds.ps op_neg_kinds.r op_neg_reads.Post
op_neg_one κs a x y s t p q = p ∙ sym q

pub op_bitnot_one : OneResult 0 op_bitnot_kinds.ps op_bitnot_kinds.r op_bitnot_reads.Post
op_bitnot_one κs a x y s t p q = p ∙ sym q

pub op_or_one : OneResult 0 op_or_kinds.ps op_or_kinds.r op_or_reads.Post
op_or_one κs a x y s t p q = p ∙ sym q

pub op_and_one : OneResult 0 op_and_kinds.ps op_and_kinds.r op_and_reads.Post
op_and_one κs a x y s t p q = p ∙ sym q

pub op_add_one : OneResult 0 op_add_kinds.ps op_add_kinds.r op_add_reads.Post
op_add_one κs a x y s t p q = p ∙ sym q

pub op_sub_one : OneResult 0 op_sub_kinds.ps op_sub_kinds.r op_sub_reads.Post
op_sub_one κs a x y s t p q = p ∙ sym q

pub op_mul_one : OneResult 0 op_mul_kinds.ps op_mul_kinds.r op_mul_reads.Post
op_mul_one κs a x y s t p q = p ∙ sym q

pub op_div_one : OneResult 0 op_div_kinds.ps op_div_kinds.r op_div_reads.Post
op_div_one κs a x y s t p q = p ∙ sym q

pub op_rem_one : OneResult 0 op_rem_kinds.ps op_rem_kinds.r op_rem_reads.Post
op_rem_one κs a x y s t p q = p ∙ sym q

pub op_eq_one : OneResult 0 op_eq_kinds.ps op_eq_kinds.r op_eq_reads.Post
op_eq_one κs a x y s t p q = p ∙ sym q

pub op_ne_one : OneResult 0 op_ne_kinds.ps op_ne_kinds.r op_ne_reads.Post
op_ne_one κs a x y s t p q = p ∙ sym q

pub op_lt_one : OneResult 0 op_lt_kinds.ps op_lt_kinds.r op_lt_reads.Post
op_lt_one κs a x y s t p q = p ∙ sym q

pub op_le_one : OneResult 0 op_le_kinds.ps op_le_kinds.r op_le_reads.Post
op_le_one κs a x y s t p q = p ∙ sym q

pub op_gt_one : OneResult 0 op_gt_kinds.ps op_gt_kinds.r op_gt_reads.Post
op_gt_one κs a x y s t p q = p ∙ sym q

pub op_ge_one : OneResult 0 op_ge_kinds.ps op_ge_kinds.r op_ge_reads.Post
op_ge_one κs a x y s t p q = p ∙ sym q

pub op_bitor_one : OneResult 0 op_bitor_kinds.ps op_bitor_kinds.r op_bitor_reads.Post
op_bitor_one κs a x y s t p q = p ∙ sym q

pub op_bitand_one : OneResult 0 op_bitand_kinds.ps op_bitand_kinds.r op_bitand_reads.Post
op_bitand_one κs a x y s t p q = p ∙ sym q

pub op_bitxor_one : OneResult 0 op_bitxor_kinds.ps op_bitxor_kinds.r op_bitxor_reads.Post
op_bitxor_one κs a x y s t p q = p ∙ sym q

pub op_shl_one : OneResult 0 op_shl_kinds.ps op_shl_kinds.r op_shl_reads.Post
op_shl_one κs a x y s t p q = p ∙ sym q

pub op_shr_one : OneResult 0 op_shr_kinds.ps op_shr_kinds.r op_shr_reads.Post
op_shr_one κs a x y s t p q = p ∙ sym q
