-- Each public contract leaves one outcome for each call. Assumes nothing.
use mathlib.Core.Path.{sym, ◌∙◌}
use Rattle.integer.proofs.Single.{OneResult}
use Rattle.cases.proofs.answers.Kinds as answers_kinds
use Rattle.cases.proofs.answers.Reads as answers_reads
use Rattle.cases.proofs.slots.is_right.Kinds as slots_kinds
use Rattle.cases.proofs.slots.is_right.Reads as slots_reads
use Rattle.cases.proofs.roundings.is_right.Kinds as roundings_kinds
use Rattle.cases.proofs.roundings.is_right.Reads as roundings_reads
use Rattle.cases.proofs.shapes.is_right.Kinds as shapes_kinds
use Rattle.cases.proofs.shapes.is_right.Reads as shapes_reads
use Rattle.cases.proofs.scalars.is_right.Kinds as scalars_kinds
use Rattle.cases.proofs.scalars.is_right.Reads as scalars_reads
use Rattle.cases.proofs.operators.is_right.Kinds as operators_kinds
use Rattle.cases.proofs.operators.is_right.Reads as operators_reads

pub answers_one : OneResult 1 answers_kinds.ps answers_kinds.r answers_reads.Post
answers_one κs a x y s t p q = p ∙ sym q

pub slots_one : OneResult 1 slots_kinds.ps slots_kinds.r slots_reads.Post
slots_one κs a x y s t p q = p ∙ sym q

pub roundings_one : OneResult 1 roundings_kinds.ps roundings_kinds.r roundings_reads.Post
roundings_one κs a x y s t p q = p ∙ sym q

pub shapes_one : OneResult 1 shapes_kinds.ps shapes_kinds.r shapes_reads.Post
shapes_one κs a x y s t p q = p ∙ sym q

pub scalars_one : OneResult 1 scalars_kinds.ps scalars_kinds.r scalars_reads.Post
scalars_one κs a x y s t p q = p ∙ sym q

pub operators_one : OneResult 1 operators_kinds.ps operators_kinds.r operators_reads.Post
operators_one κs a x y s t p q = p ∙ sym q
