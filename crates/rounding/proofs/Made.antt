-- What each operator and conversion rounds: the exact result, by its sign and its size over the bottom. Assumes nothing.
use Rattle.std.proofs.Common.{◌≡◌, ℕ, zero, suc, ◌+◌, ◌-◌, ◌*◌, ◌<◌, ◌≤◌, Bool, true, false, cond, not, ◌&&◌, eqb, ltb, ℤ, pos, negsuc, ◌+ℤ◌, ◌*ℤ◌, neg_ℤ, nat_abs, sym, refl, ap, ◌∙◌, subst, ap₂, inl, inr, lt_irrefl, eq-zero-or-pos, mul-pos, zero-mul, mul-one, arith, le-ltb, lt-ltb, eq-eqb, ne_eqb}
use mathlib.Core.Bool.{false≢true}
use lib.Ieee.{Float, nan, inf, fin, up, down, unlike, neg}
use lib.Ieee.Fits.{up_pos}
use Rattle.integer.proofs.Order.{le_or_lt}
use Rattle.rounding.specs.Kind.{Kind, round_to, convert, of_integer}
use Rattle.rounding.specs.Arithmetic.{sum, add, sub, mul, div}
use Rattle.rounding.specs.Bits.{finite}
use Rattle.rounding.specs.Rounded.{Exact, ratio, signed_by, exact_of, sign_of, plus, minus, times, over, own_sign, unit, sum_sign, difference_sign, product_sign}
use Rattle.rounding.proofs.Signs.{size_of, no_size, turned, by_size, by_signs, unit_of, both, larger, smaller, own_sign_lem}

-- r is a number x with the sign s, by its size, rounded to the kind
pub record Made (k : Kind) (s : Bool) (x : Exact) (r : Float) : Type 0 where
  pub size : ℕ
  pub top : x.top ≡ signed_by s size
  pub made : r ≡ round_to k s size x.bottom

module _ (k : Kind) where
  moved : {sign : Bool} {top : ℤ} {r : Float} (u : Bool) (n c : ℕ) → sign ≡ u → top ≡ signed_by u n → r ≡ round_to k u n c → Made k sign (ratio top c) r
  moved u n c e f g = record { size = n; top = f ∙ ap (λ (s : Bool). signed_by s n) (sym e); made = g ∙ ap (λ (s : Bool). round_to k s n c) (sym e) }

  -- a sum of two signed sizes over one bottom
  module _ (a b c : ℕ) where
    abbrev Summed : Bool → Bool → Type 0
    Summed s t = Made k (own_sign (signed_by s a +ℤ signed_by t b) (s && t)) (ratio (signed_by s a +ℤ signed_by t b) c) (sum k s a t b c)

    summed_like : (s : Bool) → s && s ≡ s → sum k s a s b c ≡ round_to k s (a + b) c → Summed s s
    summed_like s d g = moved s (a + b) c (ap (λ (z : ℤ). own_sign z (s && s)) (both s a b) ∙ sign) (both s a b) g
      where
        sign : own_sign (signed_by s (a + b)) (s && s) ≡ s
        sign =
            elim (eq-zero-or-pos (a + b)) [
              | inl z ↦ ap (λ (y : ℤ). own_sign y (s && s)) (ap (signed_by s) z ∙ no_size s) ∙ d
              | inr p ↦ own_sign_lem s (a + b) (s && s) p
            ]

    summed_unlike : (s : Bool) → s && true ≡ s → s && false ≡ false → s && not s ≡ false
        → sum k s a (not s) b c ≡ cond (ltb a b) (round_to k (not s) (b - a) c) (round_to k (s && ltb b a) (a - b) c) → Summed s (not s)
    summed_unlike s d z n g =
        elim (le_or_lt b a) [
          | inl h ↦ elim (le_or_lt a b) [ inl i ↦ level h i | inr i ↦ above h i ]
          | inr h ↦ moved (not s) (b - a) c (ap (λ (y : ℤ). own_sign y (s && not s)) (smaller s a b h) ∙ own_sign_lem (not s) (b - a) (s && not s) (rest a b h)) (smaller s a b h)
              (g ∙ ap (λ (t : Bool). cond t (round_to k (not s) (b - a) c) (round_to k (s && ltb b a) (a - b) c)) (lt-ltb a b h))
        ]
      where
        rest : (a b : ℕ) → a < b → 0 < b - a
        rest a b h = omega arith

        kept : b ≤ a → sum k s a (not s) b c ≡ round_to k (s && ltb b a) (a - b) c
        kept h = g ∙ ap (λ (t : Bool). cond t (round_to k (not s) (b - a) c) (round_to k (s && ltb b a) (a - b) c)) (le-ltb a b h)

        above : b ≤ a → b < a → Summed s (not s)
        above h i =
            moved s (a - b) c (ap (λ (y : ℤ). own_sign y (s && not s)) (larger s a b h) ∙ own_sign_lem s (a - b) (s && not s) (rest b a i)) (larger s a b h)
            (kept h ∙ ap (λ (t : Bool). round_to k (s && t) (a - b) c) (lt-ltb b a i) ∙ ap (λ (t : Bool). round_to k t (a - b) c) d)

        level : b ≤ a → a ≤ b → Summed s (not s)
        level h i =
            let e : a - b ≡ 0 = omega arith in
            let t : signed_by s a +ℤ signed_by (not s) b ≡ pos 0 = larger s a b h ∙ ap (signed_by s) e ∙ no_size s in
            moved false 0 c (ap (λ (y : ℤ). own_sign y (s && not s)) t ∙ n) t
            (kept h ∙ ap (λ (t : Bool). round_to k (s && t) (a - b) c) (le-ltb b a i) ∙ (λ j. round_to k (z j) (e j) c))

    summed : (s t : Bool) → Summed s t
    unfolding sum
    summed false false = summed_like false refl refl
    summed true true = summed_like true refl refl
    summed false true = summed_unlike false refl refl refl refl
    summed true false = summed_unlike true refl refl refl refl

  pub sum_made : (x y : Float) → finite x ≡ true → finite y ≡ true → Made k (sum_sign x y) (plus (exact_of x) (exact_of y)) (add k x y)
  unfolding add
  sum_made nan y f g = absurd (false≢true f)
  sum_made (inf s) y f g = absurd (false≢true f)
  sum_made (fin s m e) nan f g = absurd (false≢true g)
  sum_made (fin s m e) (inf t) f g = absurd (false≢true g)
  sum_made (fin s m e) (fin t n d) f g =
      let a = m * up e * down d in
      let b = n * up d * down e in
      let c = down e * down d in
      let w : signed_by s (m * up e) *ℤ pos (down d) +ℤ signed_by t (n * up d) *ℤ pos (down e) ≡ signed_by s a +ℤ signed_by t b
      = ap₂ ◌+ℤ◌ (by_size s (m * up e) (down d)) (by_size t (n * up d) (down e)) in
      subst (λ (z : ℤ). Made k (own_sign z (s && t)) (ratio z c) (sum k s a t b c)) (sym w) (summed a b c s t)

  pub difference_made : (x y : Float) → finite x ≡ true → finite y ≡ true → Made k (difference_sign x y) (minus (exact_of x) (exact_of y)) (sub k x y)
  unfolding sub neg
  difference_made nan y f g = absurd (false≢true f)
  difference_made (inf s) y f g = absurd (false≢true f)
  difference_made (fin s m e) nan f g = absurd (false≢true g)
  difference_made (fin s m e) (inf t) f g = absurd (false≢true g)
  difference_made (fin s m e) (fin t n d) f g =
      let w : signed_by (not t) (n * up d) *ℤ pos (down e) ≡ neg_ℤ (signed_by t (n * up d) *ℤ pos (down e))
      = by_size (not t) (n * up d) (down e) ∙ turned t (n * up d * down e) ∙ ap neg_ℤ (sym (by_size t (n * up d) (down e))) in
      let l = signed_by s (m * up e) *ℤ pos (down d) in
      subst (λ (z : ℤ). Made k (own_sign (l +ℤ z) (s && not t)) (ratio (l +ℤ z) (down e * down d)) (add k (fin s m e) (fin (not t) n d))) w
      (sum_made (fin s m e) (fin (not t) n d) refl refl)

  pub product_made : (x y : Float) → finite x ≡ true → finite y ≡ true → Made k (product_sign x y) (times (exact_of x) (exact_of y)) (mul k x y)
  unfolding mul
  product_made nan y f g = absurd (false≢true f)
  product_made (inf s) y f g = absurd (false≢true f)
  product_made (fin s m e) nan f g = absurd (false≢true g)
  product_made (fin s m e) (inf t) f g = absurd (false≢true g)
  product_made (fin s m e) (fin t n d) f g =
      moved (unlike s t) (m * up e * (n * up d)) (down e * down d) refl (by_signs s t (m * up e) (n * up d)) refl

  pub quotient_made : (x y : Float) → finite x ≡ true → finite y ≡ true → ((exact_of y).top ≡ pos 0 → ⊥) → Made k (product_sign x y) (over (exact_of x) (exact_of y)) (div k x y)
  unfolding div
  quotient_made nan y f g h = absurd (false≢true f)
  quotient_made (inf s) y f g h = absurd (false≢true f)
  quotient_made (fin s m e) nan f g h = absurd (false≢true g)
  quotient_made (fin s m e) (inf t) f g h = absurd (false≢true g)
  quotient_made (fin s m e) (fin t n d) f g h =
      let v = n * up d in
      let p : 0 < v = elim (eq-zero-or-pos v) [ inl z ↦ absurd (h (ap (signed_by t) z ∙ no_size t)) | inr p ↦ p ] in
      let N : n ≡ 0 → ⊥ = λ z. lt_irrefl 0 (subst (λ (x : ℕ). 0 < x) (ap (λ (x : ℕ). x * up d) z ∙ zero-mul (up d)) p) in
      let top : signed_by s (m * up e) *ℤ pos (down d) *ℤ unit (signed_by t v) ≡ signed_by (unlike s t) (m * up e * down d)
      = ap₂ ◌*ℤ◌ (by_size s (m * up e) (down d)) (unit_of t v p) ∙ by_signs s t (m * up e * down d) 1 ∙ ap (signed_by (unlike s t)) (mul-one (m * up e * down d)) in
      subst (λ (c : ℕ). Made k (unlike s t) (ratio (signed_by s (m * up e) *ℤ pos (down d) *ℤ unit (signed_by t v)) (c * down e)) (div k (fin s m e) (fin t n d)))
      (sym (size_of t v))
      (moved (unlike s t) (m * up e * down d) (v * down e) refl top
      (ap (λ (z : Bool). cond z (cond (eqb m 0) nan (inf (unlike s t))) (round_to k (unlike s t) (m * up e * down d) (v * down e))) (ne_eqb n 0 N)))

  -- a zero divisor gives an infinity, or of a zero the NaN
  pub zero_divisor : (x y : Float) → finite x ≡ true → finite y ≡ true → (exact_of y).top ≡ pos 0 → finite (div k x y) ≡ false
  unfolding div
  zero_divisor nan y f g h = absurd (false≢true f)
  zero_divisor (inf s) y f g h = absurd (false≢true f)
  zero_divisor (fin s m e) nan f g h = absurd (false≢true g)
  zero_divisor (fin s m e) (inf t) f g h = absurd (false≢true g)
  zero_divisor (fin s m e) (fin t n d) f g h =
      let z : n * up d ≡ 0 = sym (size_of t (n * up d)) ∙ ap nat_abs h in
      let N : n ≡ 0 = elim (eq-zero-or-pos n) [ inl z ↦ z | inr p ↦ absurd (lt_irrefl 0 (subst (λ (v : ℕ). 0 < v) z (mul-pos p (up_pos d)))) ] in
      ap (λ (c : Bool). finite (cond c (cond (eqb m 0) nan (inf (unlike s t))) (round_to k (unlike s t) (m * up e * down d) (n * up d * down e)))) (eq-eqb n 0 N)
      ∙ neither (eqb m 0) (unlike s t)
    where
      neither : (c s : Bool) → finite (cond c nan (inf s)) ≡ false
      neither true s = refl
      neither false s = refl

  -- ---- and by conversion
  pub conversion_made : (x : Float) → finite x ≡ true → Made k (sign_of x) (exact_of x) (convert k x)
  unfolding convert
  conversion_made nan f = absurd (false≢true f)
  conversion_made (inf s) f = absurd (false≢true f)
  conversion_made (fin s m e) f = moved s (m * up e) (down e) refl refl refl

  pub integer_made : (z : ℤ) → Made k (own_sign z false) (ratio z 1) (of_integer k z)
  unfolding of_integer
  integer_made (pos zero) = moved false 0 1 refl refl refl
  integer_made (pos (suc n)) = moved false (suc n) 1 refl refl refl
  integer_made (negsuc n) = moved true (suc n) 1 refl refl refl
