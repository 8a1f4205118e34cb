-- Rounding by places, in one sum. Assumes nothing.
use Rattle.std.proofs.Common.{◌≡◌, ℕ, ◌+◌, ◌-◌, ◌*◌, ◌/◌, ◌%◌, ◌^◌, ◌<◌, ◌≤◌, sym, ap, ◌∙◌, arith, pow_pos, pow_mono}
use lib.Ieee.Nearest.{closest}
use Rattle.rounding.proofs.Digits.{twice}
use Rattle.rounding.proofs.Closest.{closest_added}
use Rattle.rounding.proofs.Weights.{weight_is}
use Rattle.rounding.proofs.places.round_whole.Goals as goal

-- the half bit's weight
half_is : (p : ℕ) → 1 ≤ p → p < 64 → 1 * 2 ^ (p - 1) % 2 ^ 64 ≡ 2 ^ (p - 1)
half_is p a b = weight_is p (omega arith)

half_small : (p : ℕ) → p < 64 → 2 ^ (p - 1) ≤ 2 ^ 62
half_small p a = pow_mono (let l : p - 1 ≤ 62 = omega arith in l)

pub overflow_sub-result : goal.overflow_sub-result
overflow_sub-result c = omega (arith, half_is c.args.places c.requires.1 c.requires.2, pow_pos (c.args.places - 1))

pub overflow_add-result : goal.overflow_add-result
overflow_add-result c = omega (arith, half_is c.args.places c.requires.1 c.requires.2, half_small c.args.places c.requires.2)

pub overflow_add-result-2 : goal.overflow_add-result-2
overflow_add-result-2 c = omega (arith, half_is c.args.places c.requires.1 c.requires.2, half_small c.args.places c.requires.2)

pub returns : goal.returns
returns c =
    let m = c.args.m in
    let p = c.args.places in
    let unit : 2 ^ p ≡ 2 * 2 ^ (p - 1) = twice p (omega arith) in
    ap (λ (h : ℕ). (m + (h - 1) + m / 2 ^ p % 2) / 2 ^ p) (half_is c.args.places c.requires.1 c.requires.2)
    ∙ sym (ap (closest m) unit ∙ closest_added m (2 ^ (p - 1)) (pow_pos (p - 1))
    ∙ ap (λ (x : ℕ). (m + (2 ^ (p - 1) - 1) + m / x % 2) / x) (sym unit))
