-- `cases::roundings::answer` meets its contract. Assumes nothing.
use Rattle.cases.specs.Judged.{conversions, conversion_of}
use mir.Syntax.{w64}
use mir.Val.{SFits}
use mir.ValLaws.{to_z-of_z}
use Rattle.types.proofs.Choice.{past_one}
use Rattle.cases.proofs.Tests.{number_of_test}
use borrow.Author.Rules.{rules}
use Rattle.cases.proofs.roundings.answer.Goals as goal

pub returns-in-1 : goal.returns-in-1
unfolding conversion_of
returns-in-1 c = rw (c.in-1.is, c.f64_to_half.ensures, c.of_bits.ensures)

pub returns-in-2 : goal.returns-in-2
unfolding conversion_of
returns-in-2 c = rw (c.in-2.is, c.bits.ensures.kept, c.f64_to_f32.ensures, c.of_bits-in-2.ensures)

pub returns-in-3 : goal.returns-in-3
unfolding conversion_of
returns-in-3 c = rw (c.in-3.is, c.f32_to_half.ensures, c.of_bits-in-3.ensures)

pub returns-in-4 : goal.returns-in-4
unfolding conversion_of
returns-in-4 c = rw (c.in-4.is, c.bits-in-4.ensures.kept, c.half_to_f32.ensures)

pub returns-in-5 : goal.returns-in-5
unfolding conversion_of
returns-in-5 c =
    let f : SFits w64 c.cast_signed.result = search rules in
    rw (c.in-5.is, c.i64_to_half.ensures, to_z-of_z w64 _ f, c.cast_signed.ensures)

pub returns-in-6 : goal.returns-in-6
unfolding conversion_of
returns-in-6 c =
    let f : SFits w64 c.cast_signed-in-6.result = search rules in
    rw (c.in-6.is, c.bits-in-6.ensures.kept, c.i64_to_f32.ensures, to_z-of_z w64 _ f, c.cast_signed-in-6.ensures)

pub returns-in-7 : goal.returns-in-7
unfolding conversion_of
returns-in-7 c =
    let f : SFits w64 c.cast_signed-in-7.result = search rules in
    rw (c.in-7.is, c.bits-in-7.ensures.kept, c.i64_to_f64.ensures, to_z-of_z w64 _ f, c.cast_signed-in-7.ensures)

pub returns-in-8 : goal.returns-in-8
unfolding conversion_of
returns-in-8 c = rw (c.in-8.is, c.bits-in-8.ensures.kept, c.of_bits-in-8.ensures)

pub returns-in-9 : goal.returns-in-9
unfolding conversion_of
returns-in-9 c = rw (c.in-9.is, c.bits-in-9.ensures.kept, c.of_bits-in-9.ensures)

pub returns-in-10 : goal.returns-in-10
unfolding conversion_of
returns-in-10 c = rw (c.in-10.is, number_of_test c.is_finite.result, c.is_finite.ensures, c.of_bits-in-10.ensures)

pub returns-in-11 : goal.returns-in-11
unfolding conversion_of
returns-in-11 c = rw (c.in-11.is, number_of_test c.is_finite-in-11.result, c.is_finite-in-11.ensures, c.of_bits-in-11.ensures)

pub returns-in-12 : goal.returns-in-12
unfolding conversion_of
returns-in-12 c = rw (c.in-12.is, number_of_test c.finite_half.result, c.finite_half.ensures)

pub returns-in_default : goal.returns-in_default
unfolding conversion_of
returns-in_default c = past_one (conversions c.args.x) 0 c.args.what c.in_default.in_default-own.rest
