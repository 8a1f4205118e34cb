-- Laws of what reading answers: which answer a chain of checks gives, and what an answer says of the chain.
use mathlib.Core.Path.{◌≡◌, refl, sym, ap}
use mathlib.Core.Bool.{Bool, true, false}
use Prim.Native.Nat.{ℕ, ◌+◌}
use native.Mathlib.Omega.{arith}
use Rattle.std.specs.Prelude.{Ok, Err}
use Rattle.low.specs.declared.Refused.{Refused}
use Rattle.low.specs.Read.{Read, found, refused, must, then_read, read_as, placed_from, seen_of}

-- ---- from the code's answer to the definition's
pub was_read : {A : Type 0} (x : Read A) (n : ℕ) → Ok n ≡ seen_of x → (a : A) × (x ≡ found a n)
was_read (found a m) n e = (a, let h : m ≡ n = cc in ap (found a) h)
was_read (refused k p) n e = absurd (let z : ◌≡◌ {A = ℕ} 0 1 = cc in omega arith)

pub was_refused : {A : Type 0} (x : Read A) (r : Refused) → Err r ≡ seen_of x → x ≡ refused r.number r.place
was_refused (found a m) r e = absurd (let z : ◌≡◌ {A = ℕ} 0 1 = cc in omega arith)
was_refused (refused j q) r e =
    let h : r ≡ record { number = j; place = q } = cc in
    rw h

pub seen_as : {A B : Type 0} (f : A → B) (x : Read A) → seen_of (read_as f x) ≡ seen_of x
unfolding read_as
seen_as f (found a n) = refl
seen_as f (refused k p) = refl

-- ---- a refusal is nothing found
pub never : {A : Type 0} (k p : ℕ) (a : A) (n : ℕ) → refused k p ≡ found a n → ⊥
never k p a n e = let z : ◌≡◌ {A = ℕ} 0 1 = cc in omega arith

-- ---- a found thing passed every check
pub must_found : {A : Type 0} (g : Bool) (k p : ℕ) (x : Read A) (a : A) (n : ℕ) → must g (refused k p) x ≡ found a n → (g ≡ true) × (x ≡ found a n)
unfolding must
must_found true k p x a n e = (refl, e)
must_found false k p x a n e = absurd (never k p a n e)

pub must_is : {A : Type 0} (g : Bool) (k p : ℕ) (x y : Read A) → g ≡ true → x ≡ y → must g (refused k p) x ≡ y
unfolding must
must_is true k p x y q e = e
must_is false k p x y q e = absurd (let z : ◌≡◌ {A = ℕ} 0 1 = cc in omega arith)

pub then_found : {A B : Type 0} (x : Read A) (f : A → ℕ → Read B) (b : B) (n : ℕ) → then_read x f ≡ found b n → (a : A) × (m : ℕ) × (x ≡ found a m) × (f a m ≡ found b n)
unfolding then_read
then_found (found a m) f b n e = (a, m, refl, e)
then_found (refused k p) f b n e = absurd (never k p b n e)

pub as_found : {A B : Type 0} (f : A → B) (x : Read A) (b : B) (n : ℕ) → read_as f x ≡ found b n → (a : A) × (x ≡ found a n) × (b ≡ f a)
unfolding read_as
as_found f (found a m) b n e = (a, let h : m ≡ n = cc in ap (found a) h, let h : f a ≡ b = cc in sym h)
as_found f (refused k p) b n e = absurd (never k p b n e)

pub placed_found : {A : Type 0} (start : ℕ) (x : Read A) (a : A) (n : ℕ) → placed_from start x ≡ found a n → (m : ℕ) × (x ≡ found a m) × (n ≡ start + m)
unfolding placed_from
placed_found start (found c m) a n e = (m, let h : c ≡ a = cc in ap (λ (y : _). found y m) h, let h : start + m ≡ n = cc in sym h)
placed_found start (refused k p) a n e = absurd (never k (start + p) a n e)
