-- The value of an F16, by its fields. Assumes nothing.
use Rattle.std.proofs.Common.{◌≡◌, ℕ, ◌/◌, ◌%◌, ◌^◌, leb, sym, ap, ◌∙◌, arith}
use lib.Ieee as Ieee
use lib.Ieee.{binary32, inf, odd}
use Rattle.rounding.specs.Kind.{half}
use Rattle.rounding.specs.Bits.{of_bits}
use Rattle.rounding.proofs.Nan.{nan_pattern}
use Rattle.rounding.proofs.Range.{inside, beyond}
use Rattle.rounding.proofs.Fields.{read, fields_low, fields_inf, fields_nan}
use Rattle.rounding.proofs.widen.half_to_f32.Goals as goal

infinite : (h : ℕ) → (h % 2 ^ 15 ≡ 31744) → of_bits half h ≡ inf (leb (2 ^ 15) h)
infinite h top = read half h ∙ fields_inf half (leb (2 ^ 15) h) (h % 2 ^ 15 / 2 ^ 10) (h % 2 ^ 10) (omega (arith, top)) (omega (arith, top))

pub normal-requires : goal.normal-requires
normal-requires c = let w = inside _ (c.args.h % 2 ^ 15) _ c.if-size.true in omega (arith, w.0, w.1)

pub returns-then-size-lt1024 : goal.returns-then-size-lt1024
returns-then-size-lt1024 c =
    let h = c.args.h in
    let low : h % 2 ^ 15 ≡ h % 2 ^ 10 = omega arith in
    c.small.ensures ∙ ap (λ (x : ℕ). odd 11 (leb (2 ^ 15) h) x 0 24) low ∙ sym (read half h ∙ fields_low half (leb (2 ^ 15) h) (h % 2 ^ 15 / 2 ^ 10) (h % 2 ^ 10) (omega arith))

pub returns-then-size-gt31744 : goal.returns-then-size-gt31744
returns-then-size-gt31744 c =
    let h = c.args.h in
    nan_pattern binary32 ∙ sym (read half h ∙ fields_nan half (leb (2 ^ 15) h) (h % 2 ^ 15 / 2 ^ 10) (h % 2 ^ 10) (omega arith) (λ z. omega arith))

pub returns-then-neg : goal.returns-then-neg
unfolding Ieee.of_bits
returns-then-neg c = ap inf (sym c.if-neg.true-raw) ∙ sym (infinite c.args.h (omega (arith, beyond _ (c.args.h % 2 ^ 15) _ c.if-size.false (omega arith))))

pub returns : goal.returns
unfolding Ieee.of_bits
returns c = ap inf (sym c.if-neg.false-raw) ∙ sym (infinite c.args.h (omega (arith, beyond _ (c.args.h % 2 ^ 15) _ c.if-size.false (omega arith))))
