-- Each public contract of this crate permits one outcome for each call. Assumes nothing.
use Rattle.integer.proofs.Single.{OneResult}
use Rattle.value.proofs.Single.{one_answer}
use Rattle.bitwise.proofs.bits.op_bitnot.Kinds as op_bitnot_kinds
use Rattle.bitwise.proofs.bits.op_bitnot.Reads as op_bitnot_reads
use Rattle.bitwise.proofs.bits.op_bitor.Kinds as op_bitor_kinds
use Rattle.bitwise.proofs.bits.op_bitor.Reads as op_bitor_reads
use Rattle.bitwise.proofs.bits.op_bitand.Kinds as op_bitand_kinds
use Rattle.bitwise.proofs.bits.op_bitand.Reads as op_bitand_reads
use Rattle.bitwise.proofs.bits.op_bitxor.Kinds as op_bitxor_kinds
use Rattle.bitwise.proofs.bits.op_bitxor.Reads as op_bitxor_reads
use Rattle.bitwise.proofs.shifts.op_shl.Kinds as op_shl_kinds
use Rattle.bitwise.proofs.shifts.op_shl.Reads as op_shl_reads
use Rattle.bitwise.proofs.shifts.op_shr.Kinds as op_shr_kinds
use Rattle.bitwise.proofs.shifts.op_shr.Reads as op_shr_reads
use Rattle.bitwise.proofs.bits.bits_pair.Kinds as bits_pair_kinds
use Rattle.bitwise.proofs.bits.bits_pair.Reads as bits_pair_reads
use Rattle.bitwise.proofs.shifts.shift.Kinds as shift_kinds
use Rattle.bitwise.proofs.shifts.shift.Reads as shift_reads

pub op_bitnot_one : OneResult 0 op_bitnot_kinds.ps op_bitnot_kinds.r op_bitnot_reads.Post
op_bitnot_one κs a x y s t p q = one_answer x y p q

pub op_bitor_one : OneResult 0 op_bitor_kinds.ps op_bitor_kinds.r op_bitor_reads.Post
op_bitor_one κs a x y s t p q = one_answer x y p q

pub op_bitand_one : OneResult 0 op_bitand_kinds.ps op_bitand_kinds.r op_bitand_reads.Post
op_bitand_one κs a x y s t p q = one_answer x y p q

pub op_bitxor_one : OneResult 0 op_bitxor_kinds.ps op_bitxor_kinds.r op_bitxor_reads.Post
op_bitxor_one κs a x y s t p q = one_answer x y p q

pub op_shl_one : OneResult 0 op_shl_kinds.ps op_shl_kinds.r op_shl_reads.Post
op_shl_one κs a x y s t p q = one_answer x y p q

pub op_shr_one : OneResult 0 op_shr_kinds.ps op_shr_kinds.r op_shr_reads.Post
op_shr_one κs a x y s t p q = one_answer x y p q

pub bits_pair_one : OneResult 0 bits_pair_kinds.ps bits_pair_kinds.r bits_pair_reads.Post
bits_pair_one κs a x y s t p q = one_answer x y p q

pub shift_one : OneResult 0 shift_kinds.ps shift_kinds.r shift_reads.Post
shift_one κs a x y s t p q = one_answer x y p q
