-- Each public contract of this crate permits one outcome for each call. Assumes nothing.
use Rattle.integer.proofs.Single.{OneResult}
use Rattle.value.proofs.Single.{one_answer}
use Rattle.relation.proofs.logical.op_not.Kinds as op_not_kinds
use Rattle.relation.proofs.logical.op_not.Reads as op_not_reads
use Rattle.relation.proofs.logical.op_or.Kinds as op_or_kinds
use Rattle.relation.proofs.logical.op_or.Reads as op_or_reads
use Rattle.relation.proofs.logical.op_and.Kinds as op_and_kinds
use Rattle.relation.proofs.logical.op_and.Reads as op_and_reads
use Rattle.relation.proofs.comparison.op_eq.Kinds as op_eq_kinds
use Rattle.relation.proofs.comparison.op_eq.Reads as op_eq_reads
use Rattle.relation.proofs.comparison.op_ne.Kinds as op_ne_kinds
use Rattle.relation.proofs.comparison.op_ne.Reads as op_ne_reads
use Rattle.relation.proofs.comparison.op_lt.Kinds as op_lt_kinds
use Rattle.relation.proofs.comparison.op_lt.Reads as op_lt_reads
use Rattle.relation.proofs.comparison.op_le.Kinds as op_le_kinds
use Rattle.relation.proofs.comparison.op_le.Reads as op_le_reads
use Rattle.relation.proofs.comparison.op_gt.Kinds as op_gt_kinds
use Rattle.relation.proofs.comparison.op_gt.Reads as op_gt_reads
use Rattle.relation.proofs.comparison.op_ge.Kinds as op_ge_kinds
use Rattle.relation.proofs.comparison.op_ge.Reads as op_ge_reads
use Rattle.relation.proofs.comparison.compare.Kinds as compare_kinds
use Rattle.relation.proofs.comparison.compare.Reads as compare_reads
use Rattle.relation.proofs.logical.or_pair.Kinds as or_pair_kinds
use Rattle.relation.proofs.logical.or_pair.Reads as or_pair_reads
use Rattle.relation.proofs.logical.and_pair.Kinds as and_pair_kinds
use Rattle.relation.proofs.logical.and_pair.Reads as and_pair_reads

pub op_not_one : OneResult 0 op_not_kinds.ps op_not_kinds.r op_not_reads.Post
op_not_one κs a x y s t p q = one_answer x y p q

pub op_or_one : OneResult 0 op_or_kinds.ps op_or_kinds.r op_or_reads.Post
op_or_one κs a x y s t p q = one_answer x y p q

pub op_and_one : OneResult 0 op_and_kinds.ps op_and_kinds.r op_and_reads.Post
op_and_one κs a x y s t p q = one_answer x y p q

pub op_eq_one : OneResult 0 op_eq_kinds.ps op_eq_kinds.r op_eq_reads.Post
op_eq_one κs a x y s t p q = one_answer x y p q

pub op_ne_one : OneResult 0 op_ne_kinds.ps op_ne_kinds.r op_ne_reads.Post
op_ne_one κs a x y s t p q = one_answer x y p q

pub op_lt_one : OneResult 0 op_lt_kinds.ps op_lt_kinds.r op_lt_reads.Post
op_lt_one κs a x y s t p q = one_answer x y p q

pub op_le_one : OneResult 0 op_le_kinds.ps op_le_kinds.r op_le_reads.Post
op_le_one κs a x y s t p q = one_answer x y p q

pub op_gt_one : OneResult 0 op_gt_kinds.ps op_gt_kinds.r op_gt_reads.Post
op_gt_one κs a x y s t p q = one_answer x y p q

pub op_ge_one : OneResult 0 op_ge_kinds.ps op_ge_kinds.r op_ge_reads.Post
op_ge_one κs a x y s t p q = one_answer x y p q

pub compare_one : OneResult 0 compare_kinds.ps compare_kinds.r compare_reads.Post
compare_one κs a x y s t p q = one_answer x y p q

pub or_pair_one : OneResult 0 or_pair_kinds.ps or_pair_kinds.r or_pair_reads.Post
or_pair_one κs a x y s t p q = one_answer x y p q

pub and_pair_one : OneResult 0 and_pair_kinds.ps and_pair_kinds.r and_pair_reads.Post
and_pair_one κs a x y s t p q = one_answer x y p q
