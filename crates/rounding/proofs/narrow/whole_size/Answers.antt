-- A whole number's highest digits. Assumes nothing.
use Rattle.std.proofs.Common.{◌≡◌, ℕ, ◌+◌, ◌-◌, ◌*◌, ◌/◌, ◌^◌, ◌<◌, ◌≤◌, sym, ap, ◌∙◌, subst, arith}
use lib.Count.{count_leading_zeros, leading_le}
use lib.Ieee.Nearest.{closest}
use Rattle.rounding.specs.Kind.{kind, least}
use Rattle.rounding.specs.Pack.{pack}
use Rattle.rounding.proofs.Normal.{zeros_lt, top_is, whole_packed, kept_max, nothing, product_lt}
use Rattle.rounding.proofs.narrow.whole_size.Goals as goal

-- n is not 0
some : (n : ℕ) → (n ≡ 0 → ⊥) → 0 < n
some n h = omega arith

pub returns-then-n-eq0 : goal.returns-then-n-eq0
returns-then-n-eq0 c =
    let g = c.args in
    subst (λ (n : ℕ). 0 ≡ pack g.k.digits (n * 2 ^ least (kind g.k.digits g.k.reach)) 1) (sym c.if-n-eq0.true) (nothing g.k.digits (g.k.reach + g.k.digits - 2) c.args.k.sized.0)

pub overflow_cast-zeros : goal.overflow_cast-zeros
overflow_cast-zeros c = omega (arith, leading_le 64 c.args.n)

pub overflow_shl-top : goal.overflow_shl-top
overflow_shl-top c = zeros_lt c.args.n (some c.args.n c.if-n-eq0.false) c.ranges.n.fits

pub overflow_sub-result : goal.overflow_sub-result
overflow_sub-result c = omega (arith, zeros_lt c.args.n (some c.args.n c.if-n-eq0.false) c.ranges.n.fits)

pub overflow_mul-result : goal.overflow_mul-result
overflow_mul-result c =
    let x = 62 + c.args.k.reach - count_leading_zeros 64 c.args.n in
    let product : x * c.weight.result ≤ 2 ^ 31 = subst (λ (w : ℕ). x * w ≤ 2 ^ 31) (sym c.weight.ensures) (product_lt x c.args.k.digits (omega arith) c.requires.1) in
    omega (arith, product)

pub overflow_add-result-2 : goal.overflow_add-result-2
overflow_add-result-2 c =
    let x = 62 + c.args.k.reach - count_leading_zeros 64 c.args.n in
    let product : x * c.weight.result ≤ 2 ^ 31 = subst (λ (w : ℕ). x * w ≤ 2 ^ 31) (sym c.weight.ensures) (product_lt x c.args.k.digits (omega arith) c.requires.1) in
    let rounded : c.round_whole-q.result ≡ closest (c.args.n * 2 ^ count_leading_zeros 64 c.args.n / 2) (2 ^ (63 - c.args.k.digits)) =
    c.round_whole-q.ensures ∙ ap (λ (x : ℕ). closest (x / 2) (2 ^ (63 - c.args.k.digits))) (top_is c.args.n (some c.args.n c.if-n-eq0.false) c.ranges.n.fits) in
    omega (
      arith,
      product,
      rounded,
      kept_max c.args.n (some c.args.n c.if-n-eq0.false) c.ranges.n.fits c.requires.0 c.args.k.digits c.args.k.sized.0 c.requires.1,
    )

pub returns : goal.returns
returns c =
    let rounded : c.round_whole-q.result ≡ closest (c.args.n * 2 ^ count_leading_zeros 64 c.args.n / 2) (2 ^ (63 - c.args.k.digits)) =
    c.round_whole-q.ensures ∙ ap (λ (x : ℕ). closest (x / 2) (2 ^ (63 - c.args.k.digits))) (top_is c.args.n (some c.args.n c.if-n-eq0.false) c.ranges.n.fits) in
    let g = c.args in
    (λ i. (62 + g.k.reach - count_leading_zeros 64 g.n) * c.weight.ensures i + rounded i)
    ∙ whole_packed g.n (some c.args.n c.if-n-eq0.false) c.ranges.n.fits c.requires.0 g.k.digits c.args.k.sized.0 c.requires.1 g.k.reach c.args.k.sized.2
