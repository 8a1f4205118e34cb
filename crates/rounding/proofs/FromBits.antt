-- A value by its bits in one kind, rounded to another. Assumes nothing.
use Rattle.std.proofs.Common.{◌≡◌, ℕ, ◌+◌, ◌-◌, ◌*◌, ◌/◌, ◌%◌, ◌^◌, min, Bool, cond, leb, sym, refl, ap, ◌∙◌, mul_assoc, pow_pos, pow-add}
use lib.Ieee.{Float, inf, odd}
use Rattle.rounding.specs.Kind.{Kind, least, convert}
use Rattle.rounding.specs.Bits.{hidden, full, signed, to_bits, of_bits}
use Rattle.rounding.specs.Pack.{pack}
use Rattle.rounding.proofs.Fields.{read, fields_low, fields_mid, fields_inf}
use Rattle.rounding.proofs.Units.{Sized}
use Rattle.rounding.proofs.Pack.{round_bits, pack_same, convert_odd}

-- ---- the value that a pattern of a kind stands for, rounded to another kind whose smallest value is 2 ^ c times as large
module _ (source k : Kind) (sized : Sized k) (c : ℕ) (place : least k + c ≡ least source) where
  odd_bits : (s : Bool) (q a : ℕ)
      → to_bits k (convert k (odd source.digits s q a (least source))) ≡ cond s (signed k) 0 + min (pack k.digits (q * 2 ^ a) (2 ^ c)) (full k * hidden k)
  odd_bits s q a =
      ap (to_bits k) (convert_odd k source.digits s q a (least source))
      ∙ round_bits k sized s (q * 2 ^ a) (2 ^ least source)
      ∙ ap (λ (x : ℕ). cond s (signed k) 0 + min x (full k * hidden k))
      (pack_same k.digits (q * 2 ^ a * 2 ^ least k) (2 ^ least source) (q * 2 ^ a) (2 ^ c) (pow_pos (least source)) (pow_pos c)
      (mul_assoc (q * 2 ^ a) (2 ^ least k) (2 ^ c) ∙ ap (λ (x : ℕ). q * 2 ^ a * x) (sym (pow-add 2 (least k) c) ∙ ap (λ (x : ℕ). 2 ^ x) place)))

  pub bits_low : (b : ℕ) → b % signed source / hidden source ≡ 0
      → to_bits k (convert k (of_bits source b)) ≡ cond (leb (signed source) b) (signed k) 0 + min (pack k.digits (b % hidden source * 2 ^ 0) (2 ^ c)) (full k * hidden k)
  bits_low b e =
      ap (λ (x : Float). to_bits k (convert k x)) (read source b ∙ fields_low source (leb (signed source) b) (b % signed source / hidden source) (b % hidden source) e)
      ∙ odd_bits (leb (signed source) b) (b % hidden source) 0

  pub bits_mid : (b : ℕ) → (b % signed source / hidden source ≡ 0 → ⊥) → (b % signed source / hidden source ≡ full source → ⊥)
      → to_bits k (convert k (of_bits source b))
      ≡ cond (leb (signed source) b) (signed k) 0
      + min (pack k.digits ((hidden source + b % hidden source) * 2 ^ (b % signed source / hidden source - 1)) (2 ^ c)) (full k * hidden k)
  bits_mid b e f =
      ap (λ (x : Float). to_bits k (convert k x)) (read source b ∙ fields_mid source (leb (signed source) b) (b % signed source / hidden source) (b % hidden source) e f)
      ∙ odd_bits (leb (signed source) b) (hidden source + b % hidden source) (b % signed source / hidden source - 1)

module _ (source k : Kind) (b : ℕ) (top : b % signed source / hidden source ≡ full source) where
  inf_is : (s : Bool) → to_bits k (convert k (inf s)) ≡ cond s (signed k) 0 + full k * hidden k
  unfolding to_bits convert
  inf_is s = refl

  pub bits_inf : b % hidden source ≡ 0 → to_bits k (convert k (of_bits source b)) ≡ cond (leb (signed source) b) (signed k) 0 + full k * hidden k
  bits_inf z =
      ap (λ (x : Float). to_bits k (convert k x)) (read source b ∙ fields_inf source (leb (signed source) b) (b % signed source / hidden source) (b % hidden source) top z)
      ∙ inf_is (leb (signed source) b)
