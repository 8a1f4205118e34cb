-- Each public contract of this crate permits one outcome for each call. Assumes nothing.
use mathlib.Core.Path.{◌≡◌, refl, sym, ap, ◌∙◌}
use Prim.Native.Nat.{ℕ}
use lib.Dec.{eqb}
use Rattle.integer.proofs.Single.{OneResult}
use Rattle.std.specs.Prelude as Std
use Rattle.std.specs.Prelude.{Ok, Err}
use Rattle.value.specs.declared.Scalar.{Scalar}
use Rattle.value.specs.declared.OperatorError.{OperatorError}
use Rattle.value.specs.declared.OperatorError.TheVariants as E
use Rattle.value.specs.Answer.{Result, value, refused, shift_refused, answer_of}
use Rattle.value.specs.Pattern.{pick}
use Rattle.value.proofs.carries.Kinds as carries_kinds
use Rattle.value.proofs.carries.Reads as carries_reads
use Rattle.value.proofs.strict.Kinds as strict_kinds
use Rattle.value.proofs.strict.Reads as strict_reads
use Rattle.value.proofs.is_finite.Kinds as is_finite_kinds
use Rattle.value.proofs.is_finite.Reads as is_finite_reads
use Rattle.value.proofs.proper.Kinds as proper_kinds
use Rattle.value.proofs.proper.Reads as proper_reads
use Rattle.value.proofs.kept.Kinds as kept_kinds
use Rattle.value.proofs.kept.Reads as kept_reads
use Rattle.value.proofs.stage_of.Kinds as stage_of_kinds
use Rattle.value.proofs.stage_of.Reads as stage_of_reads
use Rattle.value.proofs.type_of.Kinds as type_of_kinds
use Rattle.value.proofs.type_of.Reads as type_of_reads
use Rattle.value.proofs.OperatorError.number.Kinds as error_number_kinds
use Rattle.value.proofs.OperatorError.number.Reads as error_number_reads
use Rattle.value.proofs.OperatorError.detail.Kinds as error_detail_kinds
use Rattle.value.proofs.OperatorError.detail.Reads as error_detail_reads
use Rattle.value.proofs.said.number.Kinds as number_kinds
use Rattle.value.proofs.said.number.Reads as number_reads
use Rattle.value.proofs.said.detail.Kinds as detail_kinds
use Rattle.value.proofs.said.detail.Reads as detail_reads
use Rattle.value.proofs.said.scalar_in.Kinds as scalar_in_kinds
use Rattle.value.proofs.said.scalar_in.Reads as scalar_in_reads
use Rattle.value.proofs.pattern.kept_scalar.Kinds as kept_scalar_kinds
use Rattle.value.proofs.pattern.kept_scalar.Reads as kept_scalar_reads
use Rattle.value.proofs.pattern.bits_of.Kinds as bits_of_kinds
use Rattle.value.proofs.pattern.bits_of.Reads as bits_of_reads
use Rattle.value.proofs.pattern.scalar_of.Kinds as scalar_of_kinds
use Rattle.value.proofs.pattern.scalar_of.Reads as scalar_of_reads
use Rattle.value.proofs.pattern.pair_of.Kinds as pair_of_kinds
use Rattle.value.proofs.pattern.pair_of.Reads as pair_of_reads

abbrev Answer : Type 0
Answer = Std.Result Scalar OperatorError

-- the error that has a number
abbrev named : ℕ → OperatorError
named n =
    pick (eqb n 1) E.Unary
    (pick (eqb n 2) E.Binary
    (pick (eqb n 4) E.AddOverflow
    (pick (eqb n 5) E.SubOverflow
    (pick (eqb n 6) E.MulOverflow
    (pick (eqb n 7) E.DivByZero E.RemZeroDiv)))))

abbrev back : Result → Answer
back (value s) = Ok s
back (refused r) = Err (named r.number)
back (shift_refused n d l) = Err (pick (eqb n 9) (E.ShlOverflow d l) (E.ShrOverflow d l))

answer_back : (a : Answer) → back (answer_of a) ≡ a
answer_back (Ok s) = refl
answer_back (Err E.Unary) = refl
answer_back (Err E.Binary) = refl
answer_back (Err E.AddOverflow) = refl
answer_back (Err E.SubOverflow) = refl
answer_back (Err E.MulOverflow) = refl
answer_back (Err E.DivByZero) = refl
answer_back (Err E.RemZeroDiv) = refl
answer_back (Err (E.ShlOverflow n l)) = refl
answer_back (Err (E.ShrOverflow n l)) = refl

-- two answers with one value, or one number, detail and operand, are one
pub one_answer : (x y : Answer) {r : Result} → answer_of x ≡ r → answer_of y ≡ r → x ≡ y
one_answer x y p q = sym (answer_back x) ∙ ap back (p ∙ sym q) ∙ answer_back y

pub carries_one : OneResult 0 carries_kinds.ps carries_kinds.r carries_reads.Post
carries_one κs a x y s t p q = p ∙ sym q

pub strict_one : OneResult 0 strict_kinds.ps strict_kinds.r strict_reads.Post
strict_one κs a x y s t p q = p ∙ sym q

pub is_finite_one : OneResult 0 is_finite_kinds.ps is_finite_kinds.r is_finite_reads.Post
is_finite_one κs a x y s t p q = p ∙ sym q

pub proper_one : OneResult 0 proper_kinds.ps proper_kinds.r proper_reads.Post
proper_one κs a x y s t p q = p ∙ sym q

pub kept_one : OneResult 0 kept_kinds.ps kept_kinds.r kept_reads.Post
kept_one κs a x y s t p q = p ∙ sym q

pub stage_of_one : OneResult 0 stage_of_kinds.ps stage_of_kinds.r stage_of_reads.Post
stage_of_one κs a x y s t p q = p ∙ sym q

pub type_of_one : OneResult 0 type_of_kinds.ps type_of_kinds.r type_of_reads.Post
type_of_one κs a x y s t p q = p ∙ sym q

pub error_number_one : OneResult 0 error_number_kinds.ps error_number_kinds.r error_number_reads.Post
error_number_one κs a x y s t p q = p ∙ sym q

pub error_detail_one : OneResult 0 error_detail_kinds.ps error_detail_kinds.r error_detail_reads.Post
error_detail_one κs a x y s t p q = p ∙ sym q

pub number_one : OneResult 0 number_kinds.ps number_kinds.r number_reads.Post
number_one κs a x y s t p q = p ∙ sym q

pub detail_one : OneResult 0 detail_kinds.ps detail_kinds.r detail_reads.Post
detail_one κs a x y s t p q = p ∙ sym q

pub scalar_in_one : OneResult 0 scalar_in_kinds.ps scalar_in_kinds.r scalar_in_reads.Post
scalar_in_one κs a x y s t p q = p ∙ sym q

pub kept_scalar_one : OneResult 0 kept_scalar_kinds.ps kept_scalar_kinds.r kept_scalar_reads.Post
kept_scalar_one κs a x y s t p q = p ∙ sym q

pub bits_of_one : OneResult 0 bits_of_kinds.ps bits_of_kinds.r bits_of_reads.Post
bits_of_one κs a x y s t p q = p ∙ sym q

pub scalar_of_one : OneResult 0 scalar_of_kinds.ps scalar_of_kinds.r scalar_of_reads.Post
scalar_of_one κs a x y s t p q = p ∙ sym q

pub pair_of_one : OneResult 0 pair_of_kinds.ps pair_of_kinds.r pair_of_reads.Post
pair_of_one κs a x y s t p q = p ∙ sym q
