-- The digits that the library gives are those of the definition.
use mathlib.Core.Path.{◌≡◌, ap, subst, ◌∙◌}
use mathlib.Core.Bool.{Bool, true, false}
use mathlib.Core.Logic.{⊎_elim}
use mathlib.Core.List.{List, [], ◌∷◌, ◌++◌}
use Prim.Native.Nat.{ℕ, zero, suc, ◌+◌, ◌-◌, ◌*◌, ◌/◌, ◌%◌, ◌^◌, ◌≤◌, ◌<◌}
use native.Mathlib.Omega.{arith}
use native.Mathlib.Nat.{pow-suc, one-le-pow, div-lt_iff_lt-mul, not-suc-le-zero, le_of_suc-le-suc, pow-le-pow_right, lt_irrefl, lt_of_lt_of_le, le_trans}
use lib.Dec.{lit<}
use borrow.Author.Tests.{lt-ltb, le-ltb}
use Rattle.io.specs.Digits.{last_digits, hex_digit_ascii, IsDigitCount}
use Rattle.integer.proofs.Order.{le_or_lt}
use Rattle.text.specs.declared.put.Text.{Text}
use Rattle.text.specs.Inside.{Puts}
use Rattle.text.specs.Text.{decimals, dec, hex, digits_of}

-- a digit below 10
glyph_small : (d : ℕ) → d < 10 → hex_digit_ascii d ≡ 48 + d
glyph_small d h = rw (lt-ltb d 10 h)

-- the fewest digits of a quotient by ten are one fewer
fewer : (n k : ℕ) → IsDigitCount 10 1 n (suc (suc k)) → IsDigitCount 10 1 (n / 10) (suc k)
fewer n k w =
    let least : 10 ^ (suc (suc k) - 1) ≤ n = w.2 (omega arith) in
    let e : suc (suc k) - 1 ≡ suc k = omega arith in
    let d : suc k - 1 ≡ k = omega arith in
    let ten : 10 ^ k * 10 ≤ n = rw (e, pow-suc) at least in
    (omega arith, (div-lt_iff_lt-mul (lit< tt)).1 (rw pow-suc at w.1), λ _. rw d (omega arith))

-- a number of two digits or more is at least ten
ten : (n k : ℕ) → IsDigitCount 10 1 n (suc (suc k)) → 10 ≤ n
ten n k w =
    let least : 10 ^ (suc (suc k) - 1) ≤ n = w.2 (omega arith) in
    let e : suc (suc k) - 1 ≡ suc k = omega arith in
    let more : 10 ^ k * 10 ≤ n = rw (e, pow-suc) at least in
    omega (arith, one-le-pow k 10 (lit< tt))

-- the fewest digits are all of them
all_digits : (f n k : ℕ) → k ≤ suc f → IsDigitCount 10 1 n k → last_digits 10 k n ≡ decimals f n
unfolding decimals
all_digits f n zero h w = absurd (not-suc-le-zero w.0)
all_digits zero n (suc zero) h w = let b : n < 10 = omega (arith, w.1) in let e : n % 10 ≡ n = omega arith in rw (e, glyph_small n b)
all_digits (suc f) n (suc zero) h w = let b : n < 10 = omega (arith, w.1) in let e : n % 10 ≡ n = omega arith in rw (e, glyph_small n b, lt-ltb n 10 b)
all_digits zero n (suc (suc k)) h w = absurd (not-suc-le-zero (le_of_suc-le-suc h))
all_digits (suc f) n (suc (suc k)) h w =
    let d : n % 10 < 10 = omega arith in
    rw (le-ltb n 10 (ten n k w), glyph_small (n % 10) d)
    (ap (λ (t : List ℕ). t ++ ((48 + n % 10) ∷ [])) (all_digits f (n / 10) (suc k) (le_of_suc-le-suc h) (fewer n k w)))

dec_digits : (n k : ℕ) → k ≤ 20 → IsDigitCount 10 1 n k → last_digits 10 k n ≡ dec n
unfolding dec
dec_digits n k h w = all_digits 19 n k h w

-- what the library spells is put
pub decimal_put : {p q : Text} {s : List ℕ} (n k : ℕ) → k ≤ 20 → IsDigitCount 10 1 n k → s ≡ last_digits 10 k n → Puts p q s → Puts p q (dec n)
decimal_put n k h w e p = rw (← dec_digits n k h w, ← e) p

pub hex_put : {p q : Text} {s : List ℕ} (x k : ℕ) → k ≡ 16 → s ≡ last_digits 16 k x → Puts p q s → Puts p q (hex x)
unfolding hex
hex_put {p} {q} x k h e r = subst (λ (t : List ℕ). Puts p q t) (e ∙ ap (λ (j : ℕ). last_digits 16 j x) h) r

-- in the one base or the other
module _ {p q : Text} (x : ℕ) (hexadecimal : Bool) where
  pub in_hex : hexadecimal ≡ true → Puts p q (32 ∷ hex x) → Puts p q (32 ∷ digits_of hexadecimal x)
  in_hex e r = rw e r

  pub in_decimal : hexadecimal ≡ false → Puts p q (32 ∷ dec x) → Puts p q (32 ∷ digits_of hexadecimal x)
  in_decimal e r = rw e r

-- the fewest digits are no more than hold the number
pub digits_few : (b least n k m : ℕ) → zero < b → IsDigitCount b least n k → least ≤ m → n < b ^ m → k ≤ m
digits_few b least n k m z w h f =
    ⊎_elim (λ (g : k ≤ m). g)
    (λ (g : m < k).
    let most : b ^ m ≤ b ^ (k - 1) = pow-le-pow_right z (omega arith) in
    let some : b ^ (k - 1) ≤ n = w.2 (omega arith) in
    absurd (lt_irrefl n (lt_of_lt_of_le f (le_trans most some))))
    (le_or_lt k m)
