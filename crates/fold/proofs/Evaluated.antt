-- Laws of working out some entries of a sheet over a buffer, whatever the entries mean.
use mathlib.Core.Path.{◌≡◌, refl, sym, ap, ◌∙◌}
use mathlib.Core.List.{List}
use mathlib.Core.Bool.{Bool, true, false, false≢true}
use mathlib.Core.Logic.{⊎_elim, ◌⊎◌, inl, inr, ◌≢◌}
use Prim.Native.Nat.{ℕ, zero, suc, ◌+◌, ◌*◌, ◌≤◌, ◌<◌}
use native.Mathlib.Omega.{arith}
use native.Mathlib.Nat.{eq-or-lt_of_le, le_of_suc-le-suc, not-suc-le-zero}
use native.Mathlib.Numerals.{add-one}
use lib.ListN.{length}
use Rattle.value.specs.Pattern.{pick}
use Rattle.slot.specs.Slot.{slot, put}
use Rattle.slot.proofs.Slots.{put_long, put_same, put_other, slots_ext}
use Rattle.fold.specs.Fresh.{Means, evaluated}

clash : {b : Bool} → b ≡ true → b ≡ false → ⊥
clash p q = false≢true (sym q ∙ p)

pub evaluated_more : (m : Means) (d : ℕ → Bool) (k : ℕ) (l : List ℕ) → evaluated m d (k + 1) l ≡ pick (d k) (put (evaluated m d k l) k (m k (evaluated m d k l))) (evaluated m d k l)
unfolding evaluated
evaluated_more m d k l = rw add-one

-- what working out the chosen ones of n entries over l makes: r
pub record Filled (m : Means) (d : ℕ → Bool) (n : ℕ) (l r : List ℕ) : Type 0 where
  pub long : length r ≡ 136 * n
  pub kept : (k : ℕ) → k < n → d k ≡ false → slot r k ≡ slot l k
  pub works : (k : ℕ) → k < n → d k ≡ true → slot r k ≡ m k r

-- meanings that fill a slot, and look only at the slots of entries that they use
pub record Local (Uses : ℕ → ℕ → Type 0) (m : Means) : Type 0 where
  pub wide : (k : ℕ) (l : List ℕ) → length (m k l) ≡ 136
  pub same : (k : ℕ) (l r : List ℕ) → ((j : ℕ) → Uses k j → slot l j ≡ slot r j) → m k l ≡ m k r

module _ (Uses : ℕ → ℕ → Type 0) (earlier : (k j : ℕ) → Uses k j → j < k) where
  -- two buffers that agree on each slot outright, or because both hold what the entry means, agree
  module _ (m : Means) (loc : Local Uses m) (n : ℕ) (l r : List ℕ) (ask : (k : ℕ) → k < n → (slot l k ≡ slot r k) ⊎ ((slot l k ≡ m k l) × (slot r k ≡ m k r))) where
    agree : (k : ℕ) → k ≤ n → (j : ℕ) → j < k → slot l j ≡ slot r j
    agree zero h j q = absurd (not-suc-le-zero q)
    agree (suc k) h j q =
        let below = agree k (omega arith) in
        ⊎_elim
        (λ (e : j ≡ k). rw e (⊎_elim (λ p. p) (λ p. p.0 ∙ loc.same k l r (λ i u. below i (earlier k i u)) ∙ sym p.1) (ask k h)))
        (λ (b : j < k). below j b)
        (eq-or-lt_of_le (le_of_suc-le-suc q))

    pub alike : length l ≡ 136 * n → length r ≡ 136 * n → l ≡ r
    alike hl hr = slots_ext n l r hl hr (λ k h. agree n (omega arith) k h)

  -- there is at most one such buffer
  pub only : (m : Means) (loc : Local Uses m) (d : ℕ → Bool) (n : ℕ) (l r s : List ℕ) → Filled m d n l r → Filled m d n l s → r ≡ s
  only m loc d n l r s p q = alike m loc n r s (λ k h. by k h (d k) refl) p.long q.long
    where
      by : (k : ℕ) → k < n → (b : Bool) → d k ≡ b → (slot r k ≡ slot s k) ⊎ ((slot r k ≡ m k r) × (slot s k ≡ m k s))
      by k h true e = inr (p.works k h e, q.works k h e)
      by k h false e = inl (p.kept k h e ∙ sym (q.kept k h e))

  -- and there is one
  module _ (m : Means) (loc : Local Uses m) (d : ℕ → Bool) (n : ℕ) (l : List ℕ) (long : length l ≡ 136 * n) where
    record Upto (k : ℕ) (r : List ℕ) : Type 0 where
      lo : length r ≡ 136 * n
      hi : (j : ℕ) → k ≤ j → j < n → slot r j ≡ slot l j
      ke : (j : ℕ) → j < k → d j ≡ false → slot r j ≡ slot l j
      wo : (j : ℕ) → j < k → d j ≡ true → slot r j ≡ m j r

    below : {P : ℕ → Type 0} (k : ℕ) → P k → ((j : ℕ) → j < k → P j) → (j : ℕ) → j < suc k → P j
    below {P} k here f j q = ⊎_elim (λ (e : j ≡ k). rw e here) (λ (b : j < k). f j b) (eq-or-lt_of_le (le_of_suc-le-suc q))

    step : (k : ℕ) → k < n → (r : List ℕ) → Upto k r → (b : Bool) → d k ≡ b → Upto (suc k) (pick b (put r k (m k r)) r)
    step k h r u true e =
        record {
          lo = put_long r k (m k r) (loc.wide k r) ∙ u.lo;
          hi = λ j a b. oth j (omega arith) ∙ u.hi j (omega arith) b;
          ke = below {P = λ j. d j ≡ false → slot (put r k (m k r)) j ≡ slot l j} k (λ f. absurd (clash e f)) (λ j q f. oth j (omega arith) ∙ u.ke j q f);
          wo =
              below {P = λ j. d j ≡ true → slot (put r k (m k r)) j ≡ m j (put r k (m k r))} k
              (λ f. put_same r k (m k r) (loc.wide k r) (omega (arith, u.lo)) ∙ still k (omega arith))
              (λ j q f. oth j (omega arith) ∙ u.wo j q f ∙ still j (omega arith));
        }
      where
        oth : (j : ℕ) → j ≢ k → slot (put r k (m k r)) j ≡ slot r j
        oth j ne = put_other r k (m k r) (loc.wide k r) j ne

        still : (j : ℕ) → j ≤ k → m j r ≡ m j (put r k (m k r))
        still j q = loc.same j r (put r k (m k r)) (λ i v. let b : i < j = earlier j i v in sym (oth i (omega arith)))
    step k h r u false e =
        record {
          lo = u.lo;
          hi = λ j a b. u.hi j (omega arith) b;
          ke = below {P = λ j. d j ≡ false → slot r j ≡ slot l j} k (λ f. u.hi k (omega arith) h) u.ke;
          wo = below {P = λ j. d j ≡ true → slot r j ≡ m j r} k (λ f. absurd (clash f e)) u.wo;
        }

    upto : (k : ℕ) → k ≤ n → Upto k (evaluated m d k l)
    unfolding evaluated
    upto zero h = record { lo = long; hi = λ j a b. refl; ke = λ j q. absurd (not-suc-le-zero q); wo = λ j q. absurd (not-suc-le-zero q) }
    upto (suc k) h = step k h (evaluated m d k l) (upto k (omega arith)) (d k) refl

    pub is_filled : Filled m d n l (evaluated m d n l)
    is_filled =
        let u = upto n (omega arith) in
        record { long = u.lo; kept = u.ke; works = u.wo }

-- only the meanings of chosen entries are looked at
pub evaluated_same : (m p : Means) (d : ℕ → Bool) (n : ℕ) (l : List ℕ) → ((k : ℕ) → k < n → d k ≡ true → (r : List ℕ) → m k r ≡ p k r)
    → evaluated m d n l ≡ evaluated p d n l
unfolding evaluated
evaluated_same m p d zero l f = refl
evaluated_same m p d (suc k) l f = by (evaluated m d k l) (evaluated p d k l) (evaluated_same m p d k l (λ j h. f j (omega arith))) (d k) refl
  where
    by : (x y : List ℕ) → x ≡ y → (b : Bool) → d k ≡ b → pick b (put x k (m k x)) x ≡ pick b (put y k (p k y)) y
    by x y e true q = rw e (ap (put y k) (f k (omega arith) q y))
    by x y e false q = e

-- where none is chosen nothing is done
pub evaluated_none : (m : Means) (d : ℕ → Bool) (n : ℕ) (l : List ℕ) → ((k : ℕ) → k < n → d k ≡ false) → evaluated m d n l ≡ l
unfolding evaluated
evaluated_none m d zero l f = refl
evaluated_none m d (suc k) l f = rw (f k (omega arith)) (evaluated_none m d k l (λ j h. f j (omega arith)))

-- only of the first n entries is it asked whether they are chosen
pub evaluated_chosen : (m : Means) (d f : ℕ → Bool) (n : ℕ) (l : List ℕ) → ((k : ℕ) → k < n → d k ≡ f k) → evaluated m d n l ≡ evaluated m f n l
unfolding evaluated
evaluated_chosen m d f zero l e = refl
evaluated_chosen m d f (suc k) l e = rw (e k (omega arith), evaluated_chosen m d f k l (λ j h. e j (omega arith)))
