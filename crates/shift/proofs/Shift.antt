-- Shifts, over the width. Assumes nothing.
use mathlib.Core.Path.{◌≡◌, refl, sym, ap, subst, ◌∙◌}
use mathlib.Core.Bool.{Bool, true, false, not, ◌||◌}
use mathlib.Core.Logic.{◌⊎◌, inl, inr}
use Prim.Native.Nat.{ℕ, zero, suc, ◌+◌, ◌-◌, ◌*◌, ◌/◌, ◌%◌, ◌^◌, ◌≤◌, ◌<◌, min}
use native.Mathlib.Omega.{arith}
use native.Mathlib.Nat.{mul-lt-mul_of_pos_right, mul-le-mul_right, mul_comm, mul_assoc, div-eq_of_lt, div-lt_iff_lt-mul, le-div_iff_mul-le, mod-eq_of_lt, mul-mod_left, one-mul, lt_of_lt_of_le}
use borrow.Author.Tests.{le-ltb, lt-ltb, lt-leb}
use lib.Dec.{leb}
use lib.Pow.{pow_pos, pow_mono, pow-lt, pow-add}
use lib.IntN.{ℤ, pos, negsuc, neg_ℤ, ◌*ℤ◌}
use lib.Signed.{mag, shr_z, mag_shr}
use mir.Syntax.{Width, w64}
use mir.Val.{SFits, bits, hbits, to_z, of_z}
use mir.ValLaws.{to_z-of_z, to_z_pos, pow-bits, bits-suc, sfits_le}
use Rattle.integer.specs.Wrap.{mod_z, wrap_u, wrap_s}
use Rattle.integer.specs.Range.{pick, whole_of}
use Rattle.std.proofs.Common.{Option, Some, None, SomeIff}
use Rattle.std.specs.Int.{int_shl}
use Rattle.std.specs.Option.{unwrap_or}
use Rattle.integer.proofs.Range.{in_yes, in_no, whole_exact, whole_out}
use Rattle.integer.proofs.Equal.{is_zero, same_bits, zero_fits}
use Rattle.integer.proofs.Order.{le_or_lt}
use Rattle.integer.proofs.Residue.{mod_z_mul, mul_mod_l}
use Rattle.integer.proofs.Wrap.{bits_wrap, wrap_fits, wrap_back}
use Rattle.shift.specs.Shift.{count_over, shl_over, shl_over_u}

-- ---- to the left
-- `x << n` multiplies and wraps, whatever m = 2 ^ n is
pub wrap_shl : (w : Width) (x : ℤ) (m : ℕ) → SFits w x → to_z w ((of_z w x * m) % 2 ^ bits w) ≡ wrap_s w (x *ℤ pos m)
unfolding wrap_s wrap_u
wrap_shl w x m f =
    ap (to_z w) (ap (λ (a : ℕ). (a * m) % 2 ^ bits w) (bits_wrap w x f)
    ∙ ap (λ (v : ℕ). v % 2 ^ bits w) (mul_comm (mod_z (2 ^ bits w) x) m)
    ∙ sym (mul_mod_l m (mod_z (2 ^ bits w) x) (2 ^ bits w))
    ∙ ap (λ (v : ℕ). v % 2 ^ bits w) (mul_comm (m % 2 ^ bits w) (mod_z (2 ^ bits w) x))
    ∙ sym (mod_z_mul (2 ^ bits w) (pow_pos (bits w)) x (pos m)))

-- and is the product, where that is in the range
exact_shl : (w : Width) (x : ℤ) (m : ℕ) → SFits w x → SFits w (x *ℤ pos m) → to_z w ((of_z w x * m) % 2 ^ bits w) ≡ x *ℤ pos m
exact_shl w x m f g = wrap_shl w x m f ∙ wrap_fits w (x *ℤ pos m) g

-- as std's `wrapping_shl` and `checked_shl` have it, on a number that is read back from its bits
pub shl_seen : (w : Width) (x : ℤ) (k : ℕ) {r : ℤ} → SFits w x → r ≡ int_shl w (to_z w (of_z w x)) k → to_z w (of_z w r) ≡ wrap_s w (x *ℤ pos (2 ^ k))
shl_seen w x k {r} f e =
    let q : r ≡ wrap_s w (x *ℤ pos (2 ^ k)) = (rw (to_z-of_z w x f) at e) ∙ wrap_shl w x (2 ^ k) f in
    ap (λ (z : ℤ). to_z w (of_z w z)) q ∙ wrap_back w (x *ℤ pos (2 ^ k))

-- a count of the width or more leaves nothing
pub shl_far : (w : Width) (x : ℤ) (n : ℕ) → SFits w x → bits w ≤ n → pos 0 ≡ wrap_s w (x *ℤ pos (2 ^ n))
shl_far w x n f h = sym (to_z_pos w 0 (pow_pos (hbits w))) ∙ ap (to_z w) (sym gone) ∙ wrap_shl w x (2 ^ n) f
  where
    split : n ≡ (n - bits w) + bits w
    split = omega arith

    gone : (of_z w x * 2 ^ n) % 2 ^ bits w ≡ 0
    gone =
        ap (λ (k : ℕ). (of_z w x * 2 ^ k) % 2 ^ bits w) split
        ∙ ap (λ (v : ℕ). (of_z w x * v) % 2 ^ bits w) (pow-add 2 (n - bits w) (bits w))
        ∙ ap (λ (v : ℕ). v % 2 ^ bits w) (sym (mul_assoc (of_z w x) (2 ^ (n - bits w)) (2 ^ bits w)))
        ∙ mul-mod_left (of_z w x * 2 ^ (n - bits w)) (2 ^ bits w)

pub shl_any : (w : Width) (x : ℤ) (n : ℕ) (o : Option ℤ) {r : ℤ} → SFits w x → SomeIff o (n < bits w) (int_shl w (to_z w (of_z w x)) n) → r ≡ unwrap_or o (pos 0)
    → to_z w (of_z w r) ≡ wrap_s w (x *ℤ pos (2 ^ n))
shl_any w x n None {r} f h e = ap (λ (z : ℤ). to_z w (of_z w z)) e ∙ to_z-of_z w (pos 0) (zero_fits w) ∙ shl_far w x n f (not_below h)
  where
    not_below : (n < bits w → ⊥) → bits w ≤ n
    not_below h = omega arith
shl_any w x n (Some y) {r} f h e = shl_seen w x n f (e ∙ h.1)

-- the product with k is in the range l * k exactly if the number is in the range l
neg_mag : (n m : ℕ) → zero < n → n ≤ m → mag (neg_ℤ (pos n)) < m
neg_mag zero m p h = absurd (none p)
  where
    none : zero < zero → ⊥
    none p = omega arith
neg_mag (suc n) m p h = h

neg_far : (n m : ℕ) → m < n → m ≤ mag (neg_ℤ (pos n))
neg_far zero m h = omega arith
neg_far (suc n) m h = omega arith

scaled_in : (z : ℤ) (l k : ℕ) → zero < k → mag z < l → mag (z *ℤ pos k) < l * k
scaled_in (pos a) l k p h = mul-lt-mul_of_pos_right h p
scaled_in (negsuc a) l k p h = neg_mag (suc a * k) (l * k) (omega (arith, p)) (mul-le-mul_right k h)

scaled_out : (z : ℤ) (l k : ℕ) → zero < k → l ≤ mag z → l * k ≤ mag (z *ℤ pos k)
scaled_out (pos a) l k p h = mul-le-mul_right k h
scaled_out (negsuc a) l k p h = neg_far (suc a * k) (l * k) (omega (arith, mul-le-mul_right k h))

-- the refusal of a shift with a limit on its count, where t says that the product is in the type
abbrev refused : Width → ℕ → Bool → Bool
refused w n t = count_over w n || not t

product_refused : (w : Width) (n : ℕ) {t : Bool} → t ≡ false → refused w n t ≡ true
product_refused w n e = rw e (either (leb (bits w) n))
  where
    either : (s : Bool) → s || true ≡ true
    either true = refl
    either false = refl

shift_taken : (w : Width) (n : ℕ) {t : Bool} → n < bits w → t ≡ true → refused w n t ≡ false
shift_taken w n h e = rw (lt-leb (bits w) n h, e)

-- the test `MAX >> n < x` of an unsigned number: MAX / b < a
product_past : (w : Width) (a b : ℕ) → zero < b → (2 ^ bits w - 1) / b < a → 2 ^ bits w ≤ a * b
product_past w a b h k = omega (arith, (div-lt_iff_lt-mul h).0 k)

product_within : (w : Width) (a b : ℕ) → zero < b → a ≤ (2 ^ bits w - 1) / b → a * b < 2 ^ bits w
product_within w a b h k = omega (arith, (le-div_iff_mul-le h).0 k, pow_pos (bits w))

pub shl_past_u : (w : Width) (x n : ℕ) → (2 ^ bits w - 1) / 2 ^ n < x → None ≡ pick (shl_over_u w x n) None (Some (x * 2 ^ n))
shl_past_u w x n h = rw (product_refused w n (le-ltb (x * 2 ^ n) (2 ^ bits w) (product_past w x (2 ^ n) (pow_pos n) h)))

pub shl_within_u : (w : Width) (x n : ℕ) → n < bits w → x ≤ (2 ^ bits w - 1) / 2 ^ n → Some ((x * 2 ^ n) % 2 ^ bits w) ≡ pick (shl_over_u w x n) None (Some (x * 2 ^ n))
shl_within_u w x n l h =
    let f = product_within w x (2 ^ n) (pow_pos n) h in
    rw (shift_taken w n l (lt-ltb (x * 2 ^ n) (2 ^ bits w) f)) (ap Some (mod-eq_of_lt f))

-- ---- a number is in the range that a product leaves exactly if its size m is below 1 << (hbits - n)
limit : (w : Width) (n : ℕ) → n ≤ hbits w → (1 * 2 ^ (hbits w - n)) % 2 ^ bits w ≡ 2 ^ (hbits w - n)
limit w n h = ap (λ (k : ℕ). k % 2 ^ bits w) (one-mul (2 ^ (hbits w - n))) ∙ mod-eq_of_lt (pow-lt (omega (arith, bits-suc w)))

module _ (w : Width) (x : ℤ) (n m : ℕ) (f : SFits w x) (h : n ≤ hbits w) (e : m ≡ mag (to_z w (of_z w x))) where
  size : m ≡ mag x
  size = e ∙ ap mag (to_z-of_z w x f)

  whole_pow : 2 ^ (hbits w - n) * 2 ^ n ≡ 2 ^ hbits w
  whole_pow = sym (pow-add 2 (hbits w - n) n) ∙ ap (λ (k : ℕ). 2 ^ k) back
    where
      back : hbits w - n + n ≡ hbits w
      back = omega arith

  shl_in : m < (1 * 2 ^ (hbits w - n)) % 2 ^ bits w → SFits w (x *ℤ pos (2 ^ n))
  shl_in q = record { sfits = rw (sym whole_pow) (scaled_in x (2 ^ (hbits w - n)) (2 ^ n) (pow_pos n) (rw (limit w n h, size) at q)) }

  shl_out : (1 * 2 ^ (hbits w - n)) % 2 ^ bits w ≤ m → 2 ^ hbits w ≤ mag (x *ℤ pos (2 ^ n))
  shl_out q = rw (sym whole_pow) (scaled_out x (2 ^ (hbits w - n)) (2 ^ n) (pow_pos n) (rw (limit w n h, size) at q))

-- ---- the top n + 1 bits are alike: x >> (hbits - n) is 0 or -1
mag_of_shr : (x : ℤ) (k : ℕ) → mag (shr_z x k) ≡ mag x / k
mag_of_shr (pos a) k = refl
mag_of_shr (negsuc a) k = refl

mag_zero : (w : Width) (z : ℤ) → SFits w z → (of_z w z ≡ 0) ⊎ (of_z w z ≡ 2 ^ bits w - 1) → mag z ≡ 0
mag_zero w z g (inl e) = ap mag (is_zero w z g e)
mag_zero w z g (inr e) = ap mag (same_bits w z (negsuc 0) g (record { sfits = pow_pos (hbits w) }) e)

zero_mag : (w : Width) (z : ℤ) → mag z ≡ 0 → (of_z w z ≡ 0) ⊎ (of_z w z ≡ 2 ^ bits w - 1)
zero_mag w (pos a) e = inl e
zero_mag w (negsuc a) e = inr (ap (λ (k : ℕ). 2 ^ bits w - suc k) e)

module _ (w : Width) (x : ℤ) (n : ℕ) (f : SFits w x) (h : n ≤ hbits w) where
  abbrev room : ℕ
  room = 2 ^ (hbits w - n)

  abbrev top : ℕ
  top = of_z w (shr_z (to_z w (of_z w x)) room)

  top_is : top ≡ of_z w (shr_z x room)
  top_is = ap (λ (z : ℤ). of_z w (shr_z z room)) (to_z-of_z w x f)

  alike : (top ≡ 0) ⊎ ((top ≡ 0 → ⊥) × (top ≡ 2 ^ bits w - 1)) → mag x < room
  alike e =
      let q : mag x / room ≡ 0 = sym (mag_of_shr x room) ∙ mag_zero w (shr_z x room) (sfits_le (mag_shr x room) f) (which e) in
      let r : mag x / room < 1 = omega arith in
      omega (arith, (div-lt_iff_lt-mul (pow_pos (hbits w - n))).0 r)
    where
      which : (top ≡ 0) ⊎ ((top ≡ 0 → ⊥) × (top ≡ 2 ^ bits w - 1)) → (of_z w (shr_z x room) ≡ 0) ⊎ (of_z w (shr_z x room) ≡ 2 ^ bits w - 1)
      which (inl e) = inl (sym top_is ∙ e)
      which (inr (n, e)) = inr (sym top_is ∙ e)

  differ : (top ≡ 0 → ⊥) × (top ≡ 2 ^ bits w - 1 → ⊥) → room ≤ mag x
  differ (a, b) = go (le_or_lt room (mag x))
    where
      go : (room ≤ mag x) ⊎ (mag x < room) → room ≤ mag x
      go (inl l) = l
      go (inr l) = absurd (neither (zero_mag w (shr_z x room) (mag_of_shr x room ∙ div-eq_of_lt l)))
        where
          neither : (of_z w (shr_z x room) ≡ 0) ⊎ (of_z w (shr_z x room) ≡ 2 ^ bits w - 1) → ⊥
          neither (inl e) = a (top_is ∙ e)
          neither (inr e) = b (top_is ∙ e)

  -- what the test says of the product, by its size
  top_in : (top ≡ 0) ⊎ ((top ≡ 0 → ⊥) × (top ≡ 2 ^ bits w - 1)) → SFits w (x *ℤ pos (2 ^ n))
  top_in e = shl_in w x n (mag (to_z w (of_z w x))) f h refl (rw (limit w n h, to_z-of_z w x f) (alike e))

  top_out : (top ≡ 0 → ⊥) × (top ≡ 2 ^ bits w - 1 → ⊥) → 2 ^ hbits w ≤ mag (x *ℤ pos (2 ^ n))
  top_out e = shl_out w x n (mag (to_z w (of_z w x))) f h refl (rw (limit w n h, to_z-of_z w x f) (differ e))

  -- what the test says of the answer, with a limit on the count and without
  pub shl_taken : (top ≡ 0) ⊎ ((top ≡ 0 → ⊥) × (top ≡ 2 ^ bits w - 1)) → Some (to_z w ((of_z w x * 2 ^ n) % 2 ^ bits w)) ≡ pick (shl_over w x n) None (Some (x *ℤ pos (2 ^ n)))
  shl_taken e =
      let g : SFits w (x *ℤ pos (2 ^ n)) = top_in e in
      rw (shift_taken w n (omega (arith, bits-suc w)) (in_yes w (x *ℤ pos (2 ^ n)) g)) (ap Some (exact_shl w x (2 ^ n) f g))

  pub shl_refused : (top ≡ 0 → ⊥) × (top ≡ 2 ^ bits w - 1 → ⊥) → None ≡ pick (shl_over w x n) None (Some (x *ℤ pos (2 ^ n)))
  shl_refused e = rw (product_refused w n (in_no w (x *ℤ pos (2 ^ n)) (top_out e)))

module _ (x : ℤ) (n : ℕ) (f : SFits w64 x) (h : n ≤ 63) where
  pub whole_taken : (top w64 x n f h ≡ 0) ⊎ ((top w64 x n f h ≡ 0 → ⊥) × (top w64 x n f h ≡ 2 ^ 64 - 1)) → Some (to_z w64 ((of_z w64 x * 2 ^ n) % 2 ^ 64)) ≡ whole_of (x *ℤ pos (2 ^ n))
  whole_taken e = let g : SFits w64 (x *ℤ pos (2 ^ n)) = top_in w64 x n f h e in ap Some (exact_shl w64 x (2 ^ n) f g) ∙ whole_exact (x *ℤ pos (2 ^ n)) g

  pub whole_refused : (top w64 x n f h ≡ 0 → ⊥) × (top w64 x n f h ≡ 2 ^ 64 - 1 → ⊥) → None ≡ whole_of (x *ℤ pos (2 ^ n))
  whole_refused e = whole_out (x *ℤ pos (2 ^ n)) (top_out w64 x n f h e)

past : (w : Width) (n : ℕ) → bits w ≤ n → 2 ^ hbits w * 2 ≤ 2 ^ n
past w n h = subst (λ (m : ℕ). m ≤ 2 ^ n) (pow-bits w) (pow_mono h)

-- a far shift of anything but 0 is out of the range
pub shl_past : (w : Width) (x : ℤ) (n : ℕ) → (of_z w x ≡ 0 → ⊥) → bits w ≤ n → 2 ^ hbits w ≤ mag (x *ℤ pos (2 ^ n))
shl_past w (pos zero) n z h = absurd (z refl)
shl_past w (pos (suc a)) n z h = omega (arith, past w n h)
shl_past w (negsuc a) n z h = neg_far (suc a * 2 ^ n) (2 ^ hbits w) (omega (arith, past w n h, pow_pos (hbits w)))

-- ---- to the right
pub shr_is : (w : Width) (x : ℤ) (m : ℕ) → SFits w x → to_z w (of_z w (shr_z (to_z w (of_z w x)) m)) ≡ shr_z x m
shr_is w x m f = rw (to_z-of_z w x f) (to_z-of_z w (shr_z x m) (sfits_le (mag_shr x m) f))

-- a count past the width shifts no further than to the sign
shr_near : (w : Width) (x : ℤ) (n : ℕ) → SFits w x → shr_z x (2 ^ min n (hbits w)) ≡ shr_z x (2 ^ n)
shr_near w x n f = go (le_or_lt n (hbits w))
  where
    far : (x : ℤ) → mag x < 2 ^ hbits w → mag x < 2 ^ n → shr_z x (2 ^ hbits w) ≡ shr_z x (2 ^ n)
    far (pos a) h k = ap pos (div-eq_of_lt h ∙ sym (div-eq_of_lt k))
    far (negsuc a) h k = ap negsuc (div-eq_of_lt h ∙ sym (div-eq_of_lt k))

    go : (n ≤ hbits w) ⊎ (hbits w < n) → shr_z x (2 ^ min n (hbits w)) ≡ shr_z x (2 ^ n)
    go (inl h) = ap (λ (k : ℕ). shr_z x (2 ^ k)) (min_left h)
      where
        min_left : n ≤ hbits w → min n (hbits w) ≡ n
        min_left h = omega arith
    go (inr h) = ap (λ (k : ℕ). shr_z x (2 ^ k)) (min_right h) ∙ far x f.sfits (lt_of_lt_of_le f.sfits (pow_mono (less h)))
      where
        min_right : hbits w < n → min n (hbits w) ≡ hbits w
        min_right h = omega arith

        less : hbits w < n → hbits w ≤ n
        less h = omega arith

pub shr_seen : (w : Width) (x : ℤ) (n m : ℕ) → SFits w x → m ≡ min n (hbits w) → to_z w (of_z w (shr_z (to_z w (of_z w x)) (2 ^ m))) ≡ shr_z x (2 ^ n)
shr_seen w x n m f e = shr_is w x (2 ^ m) f ∙ ap (λ (k : ℕ). shr_z x (2 ^ k)) e ∙ shr_near w x n f
