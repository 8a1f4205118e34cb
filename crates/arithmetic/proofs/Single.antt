-- Each public contract of this crate permits one outcome for each call. Assumes nothing.
use Rattle.integer.proofs.Single.{OneResult}
use Rattle.value.proofs.Single.{one_answer}
use Rattle.arithmetic.proofs.op_neg.Kinds as op_neg_kinds
use Rattle.arithmetic.proofs.op_neg.Reads as op_neg_reads
use Rattle.arithmetic.proofs.op_add.Kinds as op_add_kinds
use Rattle.arithmetic.proofs.op_add.Reads as op_add_reads
use Rattle.arithmetic.proofs.op_sub.Kinds as op_sub_kinds
use Rattle.arithmetic.proofs.op_sub.Reads as op_sub_reads
use Rattle.arithmetic.proofs.op_mul.Kinds as op_mul_kinds
use Rattle.arithmetic.proofs.op_mul.Reads as op_mul_reads
use Rattle.arithmetic.proofs.op_div.Kinds as op_div_kinds
use Rattle.arithmetic.proofs.op_div.Reads as op_div_reads
use Rattle.arithmetic.proofs.op_rem.Kinds as op_rem_kinds
use Rattle.arithmetic.proofs.op_rem.Reads as op_rem_reads
use Rattle.arithmetic.proofs.arithmetic_pair.Kinds as arithmetic_pair_kinds
use Rattle.arithmetic.proofs.arithmetic_pair.Reads as arithmetic_pair_reads

pub op_neg_one : OneResult 0 op_neg_kinds.ps op_neg_kinds.r op_neg_reads.Post
op_neg_one κs a x y s t p q = one_answer x y p q

pub op_add_one : OneResult 0 op_add_kinds.ps op_add_kinds.r op_add_reads.Post
op_add_one κs a x y s t p q = one_answer x y p q

pub op_sub_one : OneResult 0 op_sub_kinds.ps op_sub_kinds.r op_sub_reads.Post
op_sub_one κs a x y s t p q = one_answer x y p q

pub op_mul_one : OneResult 0 op_mul_kinds.ps op_mul_kinds.r op_mul_reads.Post
op_mul_one κs a x y s t p q = one_answer x y p q

pub op_div_one : OneResult 0 op_div_kinds.ps op_div_kinds.r op_div_reads.Post
op_div_one κs a x y s t p q = one_answer x y p q

pub op_rem_one : OneResult 0 op_rem_kinds.ps op_rem_kinds.r op_rem_reads.Post
op_rem_one κs a x y s t p q = one_answer x y p q

pub arithmetic_pair_one : OneResult 0 arithmetic_pair_kinds.ps arithmetic_pair_kinds.r arithmetic_pair_reads.Post
arithmetic_pair_one κs a x y s t p q = one_answer x y p q
