-- What stands without working it out, and else the remainder by the patterns. Assumes nothing.
use Rattle.std.proofs.Common.{◌≡◌, ℕ, ◌%◌, sym, ap, ◌∙◌, arith}
use Rattle.rounding.specs.Kind.{of_format}
use Rattle.rounding.specs.Bits.{hidden, signed}
use Rattle.remainder.proofs.Patterns.{rem_unbounded, rem_by_nan, rem_by_infinity, divides, rest_signed, width_small, rem_zero_pattern, rem_pattern}
use Rattle.remainder.proofs.rem.Goals as goal

pub returns-then-not-is_finite : goal.returns-then-not-is_finite
returns-then-not-is_finite g c = c.nan.ensures ∙ rem_unbounded (of_format g.F.Float.format) (g.F.Float.value c.args.x) (g.F.Float.value c.args.y) (sym c.is_finite.ensures ∙ c.if-not-is_finite.true)

pub returns-then-is_nan : goal.returns-then-is_nan
returns-then-is_nan g c =
    c.nan-then-is_nan.ensures
    ∙ rem_by_nan (of_format g.F.Float.format) (g.F.Float.value c.args.x) (g.F.Float.value c.args.y) (sym c.is_finite.ensures ∙ c.if-not-is_finite.false) (sym c.is_nan.ensures ∙ c.if-is_nan.true)

pub returns-then-not-is_finite-2 : goal.returns-then-not-is_finite-2
returns-then-not-is_finite-2 g c =
    rem_by_infinity (of_format g.F.Float.format) (g.F.Float.value c.args.x) (g.F.Float.value c.args.y) (sym c.is_finite.ensures ∙ c.if-not-is_finite.false)
    (sym c.is_finite-2.ensures ∙ c.if-not-is_finite-2.true) (sym c.is_nan.ensures ∙ c.if-is_nan.false)

pub returns-then-b-eq0 : goal.returns-then-b-eq0
returns-then-b-eq0 g c =
    let f = g.F.Float.format in
    let sign : c.SIGN-sign.result ≡ signed (of_format f) = c.SIGN-sign.ensures ∙ g.met.F.Float.sign_is in
    c.nan-then-b-eq0.ensures
    ∙ rem_zero_pattern f (g.F.Float.value c.args.y) c.bits.result (sym c.is_finite-2.ensures ∙ c.if-not-is_finite-2.false) c.bits.ensures.back (g.F.Float.value c.args.x)
    (sym c.is_finite.ensures ∙ c.if-not-is_finite.false) (ap (λ (s : ℕ). c.bits.result % s) (sym sign) ∙ c.if-b-eq0.true)

pub rem_size-r-requires : goal.rem_size-r-requires
rem_size-r-requires g c =
    let f = g.F.Float.format in
    let sign : c.SIGN-sign.result ≡ signed (of_format f) = c.SIGN-sign.ensures ∙ g.met.F.Float.sign_is in
    let lead : c.LEAD.result ≡ hidden (of_format f) = c.LEAD.ensures ∙ g.met.F.Float.lead_is in
    rw (sign, lead)
    (divides f (g.F.Float.value c.args.y) c.bits.result (sym c.is_finite-2.ensures ∙ c.if-not-is_finite-2.false) c.bits.ensures.back
    (λ z. c.if-b-eq0.false (ap (λ (s : ℕ). c.bits.result % s) sign ∙ z)))

pub of_bits-requires : goal.of_bits-requires
of_bits-requires g c =
    let f = g.F.Float.format in
    let sign : c.SIGN-sign.result ≡ signed (of_format f) = c.SIGN-sign.ensures ∙ g.met.F.Float.sign_is in
    let lead : c.LEAD.result ≡ hidden (of_format f) = c.LEAD.ensures ∙ g.met.F.Float.lead_is in
    rw sign
    (omega (
      arith,
      rest_signed f (g.F.Float.value c.args.y) c.bits.result (sym c.is_finite-2.ensures ∙ c.if-not-is_finite-2.false) c.bits.ensures.back
          c.bits-w.result c.rem_size-r.result c.bits-w.ensures.width (rw (sign, lead) at c.rem_size-r.ensures.1),
    ))

pub overflow_add-w : goal.overflow_add-w
overflow_add-w g c = record { fits = omega (arith, of_bits-requires g c, width_small g.F.Float.format) }

pub returns : goal.returns
returns g c =
    let f = g.F.Float.format in
    let sign : c.SIGN-sign.result ≡ signed (of_format f) = c.SIGN-sign.ensures ∙ g.met.F.Float.sign_is in
    let lead : c.LEAD.result ≡ hidden (of_format f) = c.LEAD.ensures ∙ g.met.F.Float.lead_is in
    let r = c.rem_size-r.result in
    c.of_bits.ensures
    ∙ rw sign
    (rem_pattern f (g.F.Float.value c.args.y) c.bits.result (sym c.is_finite-2.ensures ∙ c.if-not-is_finite-2.false) c.bits.ensures.back
    (g.F.Float.value c.args.x) c.bits-w.result r (sym c.is_finite.ensures ∙ c.if-not-is_finite.false) c.bits-w.ensures.back
    (λ z. c.if-b-eq0.false (ap (λ (s : ℕ). c.bits.result % s) sign ∙ z)) (rw (sign, lead) at c.rem_size-r.ensures.0) (rw (sign, lead) at c.rem_size-r.ensures.1))
