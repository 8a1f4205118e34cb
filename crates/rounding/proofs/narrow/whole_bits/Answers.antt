-- A whole number rounded to a kind: its sign's bit and its magnitude, which stops at the infinity's. Assumes nothing.
use Rattle.std.proofs.Common.{◌≡◌, ℕ, ◌+◌, ◌*◌, ◌^◌, ◌≤◌, min, Bool, cond, sym, ap, ◌∙◌, zero-add, arith}
use Rattle.rounding.specs.Kind.{kind, least}
use Rattle.rounding.specs.Bits.{signed, full, hidden}
use Rattle.rounding.specs.Pack.{pack}
use Rattle.rounding.proofs.Units.{Sized}
use Rattle.rounding.proofs.Pack.{round_bits}
use Rattle.rounding.proofs.Width.{round_lt}
use Rattle.rounding.proofs.Weights.{sign_small}
use Rattle.rounding.proofs.narrow.whole_bits.Goals as goal

sized : (p r : ℕ) → 2 ≤ p → 1 ≤ r → Sized (kind p r)
sized p r a b = record { two = a; one = b }

pub returns-then-neg : goal.returns-then-neg
returns-then-neg c =
    let g = c.args in
    let k = kind g.k.digits g.k.reach in
    let capped : c.min-q.result ≡ min (pack g.k.digits (g.n * 2 ^ least k) 1) (full k * hidden k) = c.min-q.ensures ∙ (λ i. min (c.whole_size.ensures i) (c.infinity.ensures i)) in
    (λ i. c.sign_weight.ensures i + capped i)
    ∙ ap (λ (b : Bool). cond b (signed k) 0 + min (pack g.k.digits (g.n * 2 ^ least k) 1) (full k * hidden k)) (sym c.if-neg.true)
    ∙ sym (round_bits k (sized g.k.digits g.k.reach g.k.sized.0 g.k.sized.2) g.neg g.n 1)

pub overflow_add-result : goal.overflow_add-result
overflow_add-result c =
    let g = c.args in
    omega (arith, returns-then-neg c, round_lt (kind g.k.digits g.k.reach) (sized g.k.digits g.k.reach g.k.sized.0 g.k.sized.2) g.neg g.n 1, sign_small g.k.digits g.k.reach (omega arith) (omega arith))

pub returns-else-neg : goal.returns-else-neg
returns-else-neg c =
    let g = c.args in
    let k = kind g.k.digits g.k.reach in
    let capped : c.min-q.result ≡ min (pack g.k.digits (g.n * 2 ^ least k) 1) (full k * hidden k) = c.min-q.ensures ∙ (λ i. min (c.whole_size.ensures i) (c.infinity.ensures i)) in
    capped ∙ sym (zero-add (min (pack g.k.digits (g.n * 2 ^ least k) 1) (full k * hidden k)))
    ∙ ap (λ (b : Bool). cond b (signed k) 0 + min (pack g.k.digits (g.n * 2 ^ least k) 1) (full k * hidden k)) (sym c.if-neg.false)
    ∙ sym (round_bits k (sized g.k.digits g.k.reach g.k.sized.0 g.k.sized.2) g.neg g.n 1)
