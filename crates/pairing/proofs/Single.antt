-- Each public call: any two outcomes that its contract permits coincide. Assumes nothing.
use mathlib.Core.Path.{sym, ◌∙◌}
use Rattle.integer.proofs.Single.{OneResult}
use Rattle.pairing.proofs.op_known.Kinds as op_known_kinds
use Rattle.pairing.proofs.op_known.Reads as op_known_reads
use Rattle.pairing.proofs.unary_known.Kinds as unary_known_kinds
use Rattle.pairing.proofs.unary_known.Reads as unary_known_reads
use Rattle.pairing.proofs.stage_known.Kinds as stage_known_kinds
use Rattle.pairing.proofs.stage_known.Reads as stage_known_reads
use Rattle.pairing.proofs.stage_code.Kinds as stage_code_kinds
use Rattle.pairing.proofs.stage_code.Reads as stage_code_reads
use Rattle.pairing.proofs.call_fault.Kinds as call_fault_kinds
use Rattle.pairing.proofs.call_fault.Reads as call_fault_reads
use Rattle.pairing.proofs.pair_ok.Kinds as pair_ok_kinds
use Rattle.pairing.proofs.pair_ok.Reads as pair_ok_reads
use Rattle.pairing.proofs.targets_of.Kinds as targets_of_kinds
use Rattle.pairing.proofs.targets_of.Reads as targets_of_reads
use Rattle.pairing.proofs.is_product.Kinds as is_product_kinds
use Rattle.pairing.proofs.is_product.Reads as is_product_reads
use Rattle.pairing.proofs.fits.Kinds as fits_kinds
use Rattle.pairing.proofs.fits.Reads as fits_reads
use Rattle.pairing.proofs.misfit.Kinds as misfit_kinds
use Rattle.pairing.proofs.misfit.Reads as misfit_reads
use Rattle.pairing.proofs.result_shape.Kinds as result_shape_kinds
use Rattle.pairing.proofs.result_shape.Reads as result_shape_reads

pub op_known_one : OneResult 0 op_known_kinds.ps op_known_kinds.r op_known_reads.Post
op_known_one κs a x y s t p q = p ∙ sym q

pub unary_known_one : OneResult 0 unary_known_kinds.ps unary_known_kinds.r unary_known_reads.Post
unary_known_one κs a x y s t p q = p ∙ sym q

pub stage_known_one : OneResult 0 stage_known_kinds.ps stage_known_kinds.r stage_known_reads.Post
stage_known_one κs a x y s t p q = p ∙ sym q

pub stage_code_one : OneResult 0 stage_code_kinds.ps stage_code_kinds.r stage_code_reads.Post
stage_code_one κs a x y s t p q = p ∙ sym q

pub call_fault_one : OneResult 0 call_fault_kinds.ps call_fault_kinds.r call_fault_reads.Post
call_fault_one κs a x y s t p q = p ∙ sym q

pub pair_ok_one : OneResult 0 pair_ok_kinds.ps pair_ok_kinds.r pair_ok_reads.Post
pair_ok_one κs a x y s t p q = p ∙ sym q

pub targets_of_one : OneResult 0 targets_of_kinds.ps targets_of_kinds.r targets_of_reads.Post
targets_of_one κs a x y s t p q = p ∙ sym q

pub is_product_one : OneResult 0 is_product_kinds.ps is_product_kinds.r is_product_reads.Post
is_product_one κs a x y s t p q = p ∙ sym q

pub fits_one : OneResult 0 fits_kinds.ps fits_kinds.r fits_reads.Post
fits_one κs a x y s t p q = p ∙ sym q

pub misfit_one : OneResult 0 misfit_kinds.ps misfit_kinds.r misfit_reads.Post
misfit_one κs a x y s t p q = p ∙ sym q

pub result_shape_one : OneResult 0 result_shape_kinds.ps result_shape_kinds.r result_shape_reads.Post
result_shape_one κs a x y s t p q = p ∙ sym q
