-- Laws of dependence: the chains of references, and the marks by which a walk finds them.
use mathlib.Core.Path.{◌≡◌, refl, sym, ap, ◌∙◌}
use mathlib.Core.List.Memᴰ
use mathlib.Core.List.{List, [], ◌∷◌, Memᴰ}
use mathlib.Core.Bool.{Bool, true, false, ◌||◌, false≢true}
use mathlib.Core.Logic.{⊎_elim, ◌≢◌}
use Prim.Native.Nat.{ℕ, zero, suc, ◌+◌, ◌≤◌, ◌<◌}
use native.Mathlib.Omega.{arith}
use native.Mathlib.Nat.{not-suc-le-zero}
use native.Mathlib.Numerals.{add-one}
use lib.Dec.{eqb}
use lib.ListN.{get_or}
use borrow.Author.Tests.{eq-eqb, ne_eqb, eqb-true}
use Rattle.low.proofs.Tests.{one_of, or_left, or_right, or_none}
use Rattle.value.specs.Pattern.{pick}
use Rattle.sheet.specs.Node.{any_marked}
use Rattle.entries.specs.Depend.{Leads, direct, chained, Tells, any, chain, depends, touched, tally}

-- ---- some entry of a list
any_has : (p : ℕ → Bool) {j : ℕ} (l : List ℕ) → Memᴰ j l → p j ≡ true → any p l ≡ true
unfolding any
any_has p [] h e = absurd (Memᴰ.not-nil h)
any_has p {j} (x ∷ xs) h e =
    ⊎_elim (λ (q : j ≡ x). or_left _ _ (ap p (sym q) ∙ e)) (λ t. or_right (p x) _ (any_has p xs t e)) (Memᴰ.cases_cons h)

any_from : (p : ℕ → Bool) (l : List ℕ) → any p l ≡ true → (j : ℕ) × Memᴰ j l × (p j ≡ true)
unfolding any
any_from p [] e = absurd (false≢true e)
any_from p (x ∷ xs) e =
    ⊎_elim (λ q. (x, Memᴰ.head refl, q)) (λ q. let r = any_from p xs q in (r.0, Memᴰ.tail r.1, r.2)) (one_of (p x) _ e)

any_none : (p : ℕ → Bool) {j : ℕ} (l : List ℕ) → any p l ≡ false → Memᴰ j l → p j ≡ false
unfolding any
any_none p [] e h = absurd (Memᴰ.not-nil h)
any_none p {j} (x ∷ xs) e h =
    ⊎_elim (λ (q : j ≡ x). ap p q ∙ (or_none (p x) _ e).0) (λ t. any_none p xs (or_none (p x) _ e).1 t) (Memᴰ.cases_cons h)

any_same : (p q : ℕ → Bool) (l : List ℕ) → ((j : ℕ) → Memᴰ j l → p j ≡ q j) → any p l ≡ any q l
unfolding any
any_same p q [] f = refl
any_same p q (x ∷ xs) f = rw (f x (Memᴰ.head refl), any_same p q xs (λ j h. f j (Memᴰ.tail h)))

any_empty : (p : ℕ → Bool) (l : List ℕ) → ((j : ℕ) → Memᴰ j l → ⊥) → any p l ≡ false
unfolding any
any_empty p [] f = refl
any_empty p (x ∷ xs) f = absurd (f x (Memᴰ.head refl))

pub any_nothing : (p : ℕ → Bool) → any p [] ≡ false
unfolding any
any_nothing p = refl

any_marked_lem : (marks : List Bool) (l : List ℕ) → any_marked marks l ≡ any (λ j. get_or marks j false) l
unfolding any any_marked
any_marked_lem marks [] = refl
any_marked_lem marks (x ∷ xs) = rw (any_marked_lem marks xs)

-- ---- the chains of references that lead to i
module _ (refs : ℕ → List ℕ) (i : ℕ) (earlier : (k j : ℕ) → Memᴰ j (refs k) → j < k) where
  -- no chain from k has more than k references
  chain_enough : (n m k : ℕ) → k ≤ n → k ≤ m → chain refs i n k ≡ chain refs i m k
  unfolding chain
  chain_enough zero zero k h g = refl
  chain_enough zero (suc m) k h g = sym (any_empty _ (refs k) (λ j u. let b : j < k = earlier k j u in omega arith))
  chain_enough (suc n) zero k h g = any_empty _ (refs k) (λ j u. let b : j < k = earlier k j u in omega arith)
  chain_enough (suc n) (suc m) k h g =
      any_same _ _ (refs k) (λ j u. let b : j < k = earlier k j u in ap (λ (x : Bool). eqb j i || x) (chain_enough n m j (omega arith) (omega arith)))

  pub depends_is : (k : ℕ) → depends refs i k ≡ any (touched refs i) (refs k)
  unfolding chain
  depends_is k =
      chain_enough k (suc k) k (omega arith) (omega arith)
      ∙ any_same _ _ (refs k) (λ j u. let b : j < k = earlier k j u in ap (λ (x : Bool). eqb j i || x) (chain_enough k j j (omega arith) (omega arith)))

  pub touched_self : touched refs i i ≡ true
  touched_self = or_left _ _ (eq-eqb i i refl)

  pub untouched_uses : (k j : ℕ) → touched refs i k ≡ false → Memᴰ j (refs k) → touched refs i j ≡ false
  untouched_uses k j e h = any_none (touched refs i) (refs k) (sym (depends_is k) ∙ (or_none (eqb k i) _ e).1) h

  -- they are those that the inductive definition has
  pub leads_depends : {k : ℕ} → Leads refs i k → depends refs i k ≡ true
  leads_depends {k} (direct h) = depends_is k ∙ any_has (touched refs i) (refs k) h touched_self
  leads_depends {k} (chained {j = j} h q) = depends_is k ∙ any_has (touched refs i) (refs k) h (or_right (eqb j i) _ (leads_depends q))

  depends_leads_below : (n k : ℕ) → k < n → depends refs i k ≡ true → Leads refs i k
  depends_leads_below zero k h e = absurd (not-suc-le-zero h)
  depends_leads_below (suc n) k h e =
      let r = any_from (touched refs i) (refs k) (sym (depends_is k) ∙ e) in
      let b : r.0 < k = earlier k r.0 r.1 in
      ⊎_elim
      (λ q. direct (Memᴰ.cast (sym (eqb-true r.0 i q)) r.1))
      (λ q. chained r.1 (depends_leads_below n r.0 (omega arith) q))
      (one_of (eqb r.0 i) _ r.2)

  pub depends_leads : (k : ℕ) → depends refs i k ≡ true → Leads refs i k
  depends_leads k e = depends_leads_below (suc k) k (omega arith) e

  pub leads_after : {k : ℕ} → Leads refs i k → i < k
  leads_after {k} (direct h) = earlier k i h
  leads_after {k} (chained {j = j} h q) =
      let a : i < j = leads_after q in
      let b : j < k = earlier k j h in
      omega arith

  pub depends_tells : (n : ℕ) → Tells refs i n (depends refs i)
  depends_tells n = record { only = λ k h e. depends_leads k e; all = λ k h q. leads_depends q }

  independent : (k : ℕ) → (Leads refs i k → ⊥) → depends refs i k ≡ false
  independent k none = by (depends refs i k) refl
    where
      by : (b : Bool) → depends refs i k ≡ b → b ≡ false
      by true e = absurd (none (depends_leads k e))
      by false e = refl

  pub touched_leads : {k : ℕ} → Leads refs i k → touched refs i k ≡ true
  touched_leads {k} q = or_right (eqb k i) _ (leads_depends q)

  pub not_touched : (k : ℕ) → k ≢ i → (Leads refs i k → ⊥) → touched refs i k ≡ false
  not_touched k ne none = ap (λ (b : Bool). b || depends refs i k) (ne_eqb k i ne) ∙ independent k none

  pub not_before : (k : ℕ) → k < i → touched refs i k ≡ false
  not_before k h = not_touched k (omega arith) (λ q. let b : i < k = leads_after q in omega arith)

  pub no_depends : (k : ℕ) → k ≤ i → depends refs i k ≡ false
  no_depends k h = independent k (λ q. let b : i < k = leads_after q in omega arith)

  -- where the marks of the entries before k are right, the entries named by k tell whether it depends
  pub marked_depends : (marks : List Bool) (k : ℕ) → ((j : ℕ) → j < k → get_or marks j false ≡ touched refs i j) → any_marked marks (refs k) ≡ depends refs i k
  marked_depends marks k right =
      any_marked_lem marks (refs k) ∙ any_same _ _ (refs k) (λ j u. right j (earlier k j u)) ∙ sym (depends_is k)

-- ---- counting
pub tally_more : (p : ℕ → Bool) (k : ℕ) → tally p (k + 1) ≡ tally p k + pick (p k) 1 0
unfolding tally
tally_more p k = rw add-one

pub tally_same : (p q : ℕ → Bool) (n : ℕ) → ((k : ℕ) → k < n → p k ≡ q k) → tally p n ≡ tally q n
unfolding tally
tally_same p q zero f = refl
tally_same p q (suc k) f = rw (f k (omega arith), tally_same p q k (λ j h. f j (omega arith)))

pub tally_none : (p : ℕ → Bool) (n : ℕ) → ((k : ℕ) → k < n → p k ≡ false) → tally p n ≡ 0
unfolding tally
tally_none p zero f = refl
tally_none p (suc k) f = rw (f k (omega arith), tally_none p k (λ j h. f j (omega arith)))

pub tally_small : (p : ℕ → Bool) (n : ℕ) → tally p n ≤ n
unfolding tally
tally_small p zero = omega arith
tally_small p (suc k) = by (p k) (tally_small p k)
  where
    by : (b : Bool) → tally p k ≤ k → tally p k + pick b 1 0 ≤ suc k
    by true h = omega arith
    by false h = omega arith

-- whichever test tells the dependents, as many pass
pub tells_tally : (refs : ℕ → List ℕ) (i n : ℕ) (p q : ℕ → Bool) → Tells refs i n p → Tells refs i n q → tally p n ≡ tally q n
tells_tally refs i n p q a b = tally_same p q n (λ k h. by k h (p k) refl (q k) refl)
  where
    by : (k : ℕ) → k < n → (x : Bool) → p k ≡ x → (y : Bool) → q k ≡ y → x ≡ y
    by k h true e true f = refl
    by k h true e false f = absurd (false≢true (sym f ∙ b.all k h (a.only k h e)))
    by k h false e true f = absurd (false≢true (sym e ∙ a.all k h (b.only k h f)))
    by k h false e false f = refl
