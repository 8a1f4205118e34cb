-- `closest n d`, n / d to a whole number: none is nearer, and of two as near it is the even one. Assumes nothing.
use Rattle.std.proofs.Common.{◌≡◌, ℕ, suc, ◌+◌, ◌-◌, ◌*◌, ◌/◌, ◌%◌, ◌<◌, ◌≤◌, not, T, eqb, ◌⊎◌, sym, refl, ap, ◌∙◌, subst, inl, inr, add-suc, mul-le-mul_right, mod-lt, mod-eq_of_lt, suc-mul, eq-zero-or-pos, eq-or-lt_of_le, div-add-mod', arith, eqb→eq, leb→le}
use Prim.Native.Nat.{compare, Ordering}
use native.Mathlib.Nat.{div-eq_of_lt, div-eq_of_lt-le}
use native.Mathlib.Nat.{mul-add-div_right, mul-add-mod_self_right}
use lib.Arith.{lt_of_le-ne}
use lib.Dec.{is_le, compare_is_eq, nleb→lt, eqb_refl}
use lib.Ieee.{nearest}
use lib.Ieee.Nearest.{closest}
use Rattle.integer.proofs.Order.{le_or_lt}
use Rattle.rounding.specs.Nearest.{distance}

-- ---- what `nearest` takes from a comparison
abbrev Says : Ordering → ℕ → ℕ → Type 0
Says Ordering.lt a b = a < b
Says Ordering.eq a b = a ≡ b
Says Ordering.gt a b = b < a

says : (a b : ℕ) → Says (compare a b) a b
says a b = go (compare a b) (leb→le a b) (nleb→lt a b) (eqb→eq a b) (λ (e : a ≡ b). subst (λ (x : ℕ). T (eqb a x)) e (eqb_refl a))
  where
    go : (o : Ordering) → (T (is_le o) → a ≤ b) → (T (not (is_le o)) → b < a) → (T (compare_is_eq o) → a ≡ b) → (a ≡ b → T (compare_is_eq o)) → Says o a b
    go Ordering.lt h k e n = lt_of_le-ne (h tt) n
    go Ordering.eq h k e n = e tt
    go Ordering.gt h k e n = k tt

rounds_down : (q a b : ℕ) → a < b → nearest q (compare a b) ≡ q
rounds_down q a b l = go (compare a b) (says a b)
  where
    go : (o : Ordering) → Says o a b → nearest q o ≡ q
    go Ordering.lt h = refl
    go Ordering.eq h = absurd (omega arith)
    go Ordering.gt h = absurd (omega arith)

rounds_even : (q a b : ℕ) → a ≡ b → nearest q (compare a b) ≡ q + q % 2
rounds_even q a b l = go (compare a b) (says a b)
  where
    go : (o : Ordering) → Says o a b → nearest q o ≡ q + q % 2
    go Ordering.lt h = absurd (omega arith)
    go Ordering.eq h = refl
    go Ordering.gt h = absurd (omega arith)

rounds_up : (q a b : ℕ) → b < a → nearest q (compare a b) ≡ suc q
rounds_up q a b l = go (compare a b) (says a b)
  where
    go : (o : Ordering) → Says o a b → nearest q o ≡ suc q
    go Ordering.lt h = absurd (omega arith)
    go Ordering.eq h = absurd (omega arith)
    go Ordering.gt h = refl

-- ---- and so `closest`
-- less than half of d is nothing
pub closest_little : (n d : ℕ) → n * 2 < d → closest n d ≡ 0
closest_little n d h =
    let l : n < d = omega arith in
    rounds_down (n / d) (n % d * 2) d (omega (arith, mod-eq_of_lt l)) ∙ div-eq_of_lt l

-- of n = f * d + r: q is f or the next number, by where r lies, and even where r is half of d
abbrev pub Side : ℕ → ℕ → ℕ → ℕ → Type 0
Side f r d q = ((q ≡ f) × (r * 2 ≤ d) × (r * 2 ≡ d → q % 2 ≡ 0)) ⊎ ((q ≡ suc f) × (d ≤ r * 2) × (r * 2 ≡ d → q % 2 ≡ 0))

pub side : (n d : ℕ) → 0 < d → Side (n / d) (n % d) d (closest n d)
side n d D = go (le_or_lt d (n % d * 2))
  where
    lower : (r d q f : ℕ) → r * 2 < d → q ≡ f → Side f r d q
    lower r d q f l e = inl (e, omega arith, λ t. absurd (omega arith))

    upper : (r d q f : ℕ) → d < r * 2 → q ≡ suc f → Side f r d q
    upper r d q f l e = inr (e, omega arith, λ t. absurd (omega arith))

    tie : (r d q f : ℕ) → r * 2 ≡ d → q ≡ f + f % 2 → Side f r d q
    tie r d q f t e =
        elim (eq-zero-or-pos (f % 2)) [
          | inl z ↦ inl (omega arith, omega arith, λ h. omega arith)
          | inr z ↦ inr (omega arith, omega arith, λ h. omega arith)
        ]

    go : (d ≤ n % d * 2) ⊎ (n % d * 2 < d) → Side (n / d) (n % d) d (closest n d)
    go (inr l) = lower (n % d) d (closest n d) (n / d) l (rounds_down (n / d) (n % d * 2) d l)
    go (inl h) =
        elim (eq-or-lt_of_le h) [
          | inl e ↦ tie (n % d) d (closest n d) (n / d) (sym e) (rounds_even (n / d) (n % d * 2) d (sym e))
          | inr l ↦ upper (n % d) d (closest n d) (n / d) l (rounds_up (n / d) (n % d * 2) d l)
        ]

module _ (n d f r q : ℕ) (e : f * d + r ≡ n) (l : r < d) (at : Side f r d q) where
  -- q * d is at most half of d away from n
  half_away : (2 * n ≤ 2 * (q * d) + d) × (2 * (q * d) ≤ 2 * n + d)
  half_away = go at
    where
      go : Side f r d q → (2 * n ≤ 2 * (q * d) + d) × (2 * (q * d) ≤ 2 * n + d)
      go (inl (s, h, t)) = let a : q * d ≡ f * d = ap (λ (x : ℕ). x * d) s in (omega arith, omega arith)
      go (inr (s, h, t)) = let a : q * d ≡ f * d + d = ap (λ (x : ℕ). x * d) s ∙ suc-mul f d in (omega arith, omega arith)

  near_at : (w : ℕ) → distance (q * d) n ≤ distance (w * d) n
  near_at w = go at (le_or_lt w f)
    where
      go : Side f r d q → (w ≤ f) ⊎ (f < w) → distance (q * d) n ≤ distance (w * d) n
      go (inl (s, h, t)) (inl b) = let a : q * d ≡ f * d = ap (λ (x : ℕ). x * d) s in omega (arith, mul-le-mul_right d b)
      go (inl (s, h, t)) (inr b) = let a : q * d ≡ f * d = ap (λ (x : ℕ). x * d) s in omega (arith, mul-le-mul_right d b, suc-mul f d)
      go (inr (s, h, t)) (inl b) = let a : q * d ≡ f * d + d = ap (λ (x : ℕ). x * d) s ∙ suc-mul f d in omega (arith, mul-le-mul_right d b)
      go (inr (s, h, t)) (inr b) = let a : q * d ≡ f * d + d = ap (λ (x : ℕ). x * d) s ∙ suc-mul f d in omega (arith, mul-le-mul_right d b, suc-mul f d)

  -- a w below f, or above the number after f, is a whole d further away
  tie_at : (w : ℕ) → distance (w * d) n ≡ distance (q * d) n → (w ≡ q) ⊎ (q % 2 ≡ 0)
  tie_at w g = go at (le_or_lt w f)
    where
      go : Side f r d q → (w ≤ f) ⊎ (f < w) → (w ≡ q) ⊎ (q % 2 ≡ 0)
      go (inl (s, h, t)) (inl b) =
          let a : q * d ≡ f * d = ap (λ (x : ℕ). x * d) s in
          elim (eq-or-lt_of_le b) [
            | inl o ↦ inl (o ∙ sym s)
            | inr o ↦ absurd (omega (arith, mul-le-mul_right d o, suc-mul w d))
          ]
      go (inl (s, h, t)) (inr b) = let a : q * d ≡ f * d = ap (λ (x : ℕ). x * d) s in inr (t (omega (arith, mul-le-mul_right d b, suc-mul f d)))
      go (inr (s, h, t)) (inl b) = let a : q * d ≡ f * d + d = ap (λ (x : ℕ). x * d) s ∙ suc-mul f d in inr (t (omega (arith, mul-le-mul_right d b)))
      go (inr (s, h, t)) (inr b) =
          let a : q * d ≡ f * d + d = ap (λ (x : ℕ). x * d) s ∙ suc-mul f d in
          elim (eq-or-lt_of_le b) [
            | inl o ↦ inl (sym o ∙ sym s)
            | inr o ↦ absurd (omega (arith, mul-le-mul_right d o, suc-mul (suc f) d, suc-mul f d))
          ]

module _ (n d : ℕ) (D : 0 < d) where
  pub near : (w : ℕ) → distance (closest n d * d) n ≤ distance (w * d) n
  near = near_at n d (n / d) (n % d) (closest n d) (div-add-mod' n d) (mod-lt n D) (side n d D)

  pub even_at_tie : (w : ℕ) → distance (w * d) n ≡ distance (closest n d * d) n → (w ≡ closest n d) ⊎ (closest n d % 2 ≡ 0)
  even_at_tie = tie_at n d (n / d) (n % d) (closest n d) (div-add-mod' n d) (mod-lt n D) (side n d D)

  pub within_half : (2 * n ≤ 2 * (closest n d * d) + d) × (2 * (closest n d * d) ≤ 2 * n + d)
  within_half = half_away n d (n / d) (n % d) (closest n d) (div-add-mod' n d) (mod-lt n D) (side n d D)

-- an even number of whole d's on top of n goes into the answer as it is
pub closest_above : (e n d : ℕ) → 0 < d → e % 2 ≡ 0 → closest (e * d + n) d ≡ e + closest n d
closest_above e n d D even =
    ap (λ (x : ℕ). nearest x (compare ((e * d + n) % d * 2) d)) (mul-add-div_right D e n)
    ∙ ap (λ (x : ℕ). nearest (e + n / d) (compare (x * 2) d)) (mul-add-mod_self_right e d n)
    ∙ go (n / d) (compare (n % d * 2) d)
  where
    to_even : (e w : ℕ) → e % 2 ≡ 0 → e + w + (e + w) % 2 ≡ e + (w + w % 2)
    to_even e w h = omega arith

    go : (w : ℕ) (o : Ordering) → nearest (e + w) o ≡ e + nearest w o
    go w Ordering.lt = refl
    go w Ordering.eq = to_even e w even
    go w Ordering.gt = sym (add-suc e w)

-- half of 2 * h less one, and one more where the quotient is odd, carry over exactly where n goes up
pub closest_added : (n h : ℕ) → 0 < h → closest n (2 * h) ≡ (n + (h - 1) + n / (2 * h) % 2) / (2 * h)
closest_added n h H =
    let d = 2 * h in
    let D : 0 < d = omega arith in
    let f = n / d in
    let r = n % d in
    let e : n + (h - 1) + f % 2 ≡ f * d + (r + (h - 1) + f % 2) = omega (arith, div-add-mod' n d) in
    go f r (closest n d) (mod-lt n D) (side n d D) ∙ sym (ap (λ (x : ℕ). x / d) e ∙ mul-add-div_right D f (r + (h - 1) + f % 2))
  where
    -- what is added to r carries over or not
    none : (f x d : ℕ) → x < d → f ≡ f + x / d
    none f x d l = omega (arith, div-eq_of_lt l)

    one : (f x d : ℕ) → 0 < d → d ≤ x → x < d + d → suc f ≡ f + x / d
    one f x d D l u = let e : x / d ≡ 1 = div-eq_of_lt-le d (omega arith) (omega arith) in omega arith

    go : (f r q : ℕ) → r < 2 * h → Side f r (2 * h) q → q ≡ f + (r + (h - 1) + f % 2) / (2 * h)
    go f r q l (inl (s, b, t)) =
        elim (eq-or-lt_of_le b) [
          | inl e ↦ s ∙ none f (r + (h - 1) + f % 2) (2 * h) (omega (arith, t e))
          | inr e ↦ s ∙ none f (r + (h - 1) + f % 2) (2 * h) (omega arith)
        ]
    go f r q l (inr (s, b, t)) =
        elim (eq-or-lt_of_le b) [
          | inl e ↦ s ∙ one f (r + (h - 1) + f % 2) (2 * h) (omega arith) (omega (arith, t (sym e))) (omega arith)
          | inr e ↦ s ∙ one f (r + (h - 1) + f % 2) (2 * h) (omega arith) (omega arith) (omega arith)
        ]
