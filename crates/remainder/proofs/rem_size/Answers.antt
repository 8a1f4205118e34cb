-- By whether the left one stands fewer places up. Assumes nothing.
use Rattle.std.proofs.Common.{◌≡◌, ℕ, ◌<◌, ◌+◌, ◌-◌, ◌*◌, ◌%◌, ◌^◌, ◌∙◌, subst, arith}
use Rattle.std.proofs.Math.Nat.{mul-le-mul}
use Rattle.remainder.specs.Units.{digits_of, places_of, units_of}
use Rattle.remainder.proofs.Steps.{digits_lt, digits_pos, pattern_lt, places_most, left_stays, left_over}
use Rattle.remainder.proofs.rem_size.Goals as goal

pub returns-then-low-high : goal.returns-then-low-high
returns-then-low-high c =
    let h = c.args.h in
    let H = c.requires.0 in
    let l : places_of h c.args.a < places_of h c.args.b = omega (arith, c.places-low.ensures, c.places-high.ensures) in (
      left_stays h c.args.a c.args.b H l,
      omega (arith, pattern_lt h c.args.a H, mul-le-mul {n₁ = places_of h c.args.a + 2} {m₁ = h} {n₂ = places_of h c.args.b + 2} {m₂ = h} (omega arith) (omega arith)),
    )

pub reduced-requires : goal.reduced-requires
reduced-requires c =
    let h = c.args.h in
    (omega (arith, c.digits-2.ensures, digits_pos h c.args.b c.requires.0 c.requires.2), omega (arith, c.digits-2.ensures, digits_lt h c.args.b c.requires.0))

pub packed-requires : goal.packed-requires
packed-requires c =
    let h = c.args.h in
    (c.requires.0, c.requires.1, omega (arith, c.reduced.ensures.1, c.digits-2.ensures, digits_lt h c.args.b c.requires.0), omega (arith, c.places-high.ensures, places_most h c.args.b c.requires.0 c.requires.3))

pub returns : goal.returns
returns c =
    let a = c.args in
    let e : c.reduced.result ≡ digits_of a.h a.a * 2 ^ (places_of a.h a.a - places_of a.h a.b) % digits_of a.h a.b =
    c.reduced.ensures.0 ∙ (λ i. c.digits.ensures i * 2 ^ (c.places-low.ensures i - c.places-high.ensures i) % c.digits-2.ensures i) in
    let f : units_of a.h c.packed.result ≡ c.reduced.result * 2 ^ places_of a.h a.b = c.packed.ensures.0 ∙ (λ i. c.reduced.result * 2 ^ c.places-high.ensures i) in (
      left_over a.h a.a a.b c.reduced.result c.packed.result c.requires.0 c.requires.2 (omega (arith, c.places-low.ensures, c.places-high.ensures)) e f,
      subst (λ (k : ℕ). c.packed.result < (k + 2) * a.h) c.places-high.ensures c.packed.ensures.1,
    )
