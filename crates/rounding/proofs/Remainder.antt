-- The remainder is exact: of two values of a kind, what is left is a value of the kind, so that rounding changes nothing. Assumes nothing.
use Rattle.std.proofs.Common.{◌≡◌, ℕ, ◌+◌, ◌-◌, ◌*◌, ◌/◌, ◌%◌, ◌^◌, ◌<◌, ◌≤◌, Bool, cond, sym, ap, ◌∙◌, subst, inl, inr, lt_of_lt_of_le, lt_of_le_of_lt, lt_irrefl, mod-lt, mod-eq_of_lt, mul_assoc, mul_comm, eq-zero-or-pos, mul-lt-mul_of_pos_right, mul-pos, div-add-mod', zero-mul, mul_right_comm, arith, pow_pos, ne_eqb}
use native.Mathlib.Nat.{mod-le, add-mul-mod_self_right}
use lib.Ieee.{Float, nan, fin, up, down}
use lib.Ieee.Exact.{HasValue}
use lib.Ieee.Fits.{down_pos}
use Rattle.rounding.specs.Kind.{Kind, least, round_to}
use Rattle.rounding.specs.Arithmetic.{rem}
use Rattle.rounding.specs.Nearest.{OfKind}
use Rattle.rounding.proofs.Units.{Sized}
use Rattle.integer.proofs.Order.{le_or_lt}
use Rattle.rounding.proofs.Nearest.{longer, value_stays}

-- a common factor stands before the remainder
mod-mul : (x y c : ℕ) → 0 < y → 0 < c → x * c % (y * c) ≡ x % y * c
mod-mul x y c Y C =
    let e : x * c ≡ x % y * c + x / y * (y * c) = ap (λ (z : ℕ). z * c) (sym (div-add-mod' x y)) ∙ spread (x / y) (x % y) in
    ap (λ (z : ℕ). z % (y * c)) e ∙ add-mul-mod_self_right (x % y * c) (x / y) (y * c) ∙ mod-eq_of_lt (mul-lt-mul_of_pos_right (mod-lt x Y) C)
  where
    spread : (q r : ℕ) → (q * y + r) * c ≡ r * c + q * (y * c)
    spread q r = omega arith

nonzero : (b c : ℕ) → 0 < b * c → b ≡ 0 → ⊥
nonzero b c h z = lt_irrefl 0 (subst (λ (x : ℕ). 0 < x) (ap (λ (x : ℕ). x * c) z ∙ zero-mul c) h)

pub positive : (b c : ℕ) → 0 < b * c → 0 < b
positive b c h = elim (eq-zero-or-pos b) [ inl z ↦ absurd (nonzero b c h z) | inr g ↦ g ]

-- ---- what is left of two values is a value
pub rem_of_kind : (k : Kind) (u v : ℕ) → 0 < v → OfKind k u → OfKind k v → OfKind k (u % v)
rem_of_kind k u v pos p q =
    elim (le_or_lt q.exponent p.exponent) [
      | inl h ↦
          let w = p.significand * 2 ^ (p.exponent - q.exponent) in
          let b : 0 < q.significand = positive q.significand (2 ^ q.exponent) (subst (λ (x : ℕ). 0 < x) q.value pos) in
          let f : u ≡ w * 2 ^ q.exponent = p.value ∙ longer q.exponent p.significand p.exponent h in
          let e : u % v ≡ w % q.significand * 2 ^ q.exponent = (λ i. f i % q.value i) ∙ mod-mul w q.significand (2 ^ q.exponent) b (pow_pos q.exponent) in
          left (w % q.significand) q.exponent e (lt_of_lt_of_le (mod-lt w b) (lt_le q.short))
      | inr h ↦
          let w = q.significand * 2 ^ (q.exponent - p.exponent) in
          let f : v ≡ w * 2 ^ p.exponent = q.value ∙ longer p.exponent q.significand q.exponent (lt_le h) in
          let b : 0 < w = positive w (2 ^ p.exponent) (subst (λ (x : ℕ). 0 < x) f pos) in
          let e : u % v ≡ p.significand % w * 2 ^ p.exponent = (λ i. p.value i % f i) ∙ mod-mul p.significand w (2 ^ p.exponent) b (pow_pos p.exponent) in
          left (p.significand % w) p.exponent e (lt_of_le_of_lt (mod-le p.significand w) p.short)
    ]
  where
    lt_le : {a b : ℕ} → a < b → a ≤ b
    lt_le h = omega arith

    left : (m e : ℕ) → u % v ≡ m * 2 ^ e → m < 2 ^ k.digits → OfKind k (u % v)
    left m e value short = record { significand = m; exponent = e; value = value; short = short; within = lt_of_le_of_lt (mod-le u v) p.within }

-- ---- `%`: u smallest values by v of them, both values of the kind, leave u % v, with the left sign
pub rem_exact : (k : Kind) → Sized k → (x y : Float) (s t : Bool) (u v : ℕ) → HasValue x s u (2 ^ least k) → HasValue y t v (2 ^ least k) → OfKind k u → OfKind k v → 0 < v
    → HasValue (rem k x y) s (u % v) (2 ^ least k)
unfolding rem
rem_exact k sized (fin s' m e) (fin t' n d) s t u v a b p q pos =
    let L = 2 ^ least k in
    let C = down e * down d in
    let l = m * up e * down d in
    let r = n * up d * down e in
    let x : l * L ≡ u * C = scaled (m * up e) (down e) (down d) L u a.1 in
    let y : r * L ≡ v * C = scaled (n * up d) (down d) (down e) L v b.1 ∙ ap (λ (z : ℕ). v * z) (mul_comm (down d) (down e)) in
    let c : 0 < C = mul-pos (down_pos e) (down_pos d) in
    let Y : 0 < r = positive r L (subst (λ (z : ℕ). 0 < z) (sym y) (mul-pos pos c)) in
    let N : n ≡ 0 → ⊥ = nonzero n (up d) (positive (n * up d) (down e) Y) in
    let same : u % v * C ≡ l % r * L = sym (mod-mul u v C pos c) ∙ (λ i. sym x i % sym y i) ∙ mod-mul l r L Y (pow_pos (least k)) in
    let value : HasValue (round_to k s (l % r) C) s (u % v) L = value_stays k sized s (l % r) C c (u % v) (rem_of_kind k u v pos p q) same in
    subst (λ (z : Bool). HasValue (cond z nan (round_to k s' (l % r) C)) s (u % v) L) (sym (ne_eqb n 0 N))
    (subst (λ (z : Bool). HasValue (round_to k z (l % r) C) s (u % v) L) (sym a.0) value)
  where
    scaled : (a b d L u : ℕ) → a * L ≡ u * b → a * d * L ≡ u * (b * d)
    scaled a b d L u e = mul_right_comm a d L ∙ ap (λ (z : ℕ). z * d) e ∙ mul_assoc u b d
rem_exact k sized nan y s t u v a b p q pos = elim a [ ]
rem_exact k sized (lib.Ieee.inf _) y s t u v a b p q pos = elim a [ ]
rem_exact k sized (fin s' m e) nan s t u v a b p q pos = elim b [ ]
rem_exact k sized (fin s' m e) (lib.Ieee.inf _) s t u v a b p q pos = elim b [ ]
