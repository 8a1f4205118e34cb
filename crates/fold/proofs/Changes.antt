-- Laws of the change of a setting, whatever the entries mean: it is what the demand asks, it is the only such, it turns fresh
-- results into fresh results, and changes of two settings commute.
use mathlib.Core.Path.{◌≡◌, refl, sym, ap, ◌∙◌}
use mathlib.Core.List.{List, [], Memᴰ}
use mathlib.Core.Bool.{Bool, true, false, ◌||◌, or_comm, false≢true}
use mathlib.Core.Logic.{⊎_elim, inr, ◌≢◌}
use Prim.Native.Nat.{ℕ, zero, suc, ◌+◌, ◌-◌, ◌*◌, ◌<◌, ◌≤◌}
use native.Mathlib.Omega.{arith}
use lib.Dec.{eqb}
use lib.ListN.{length, get_or}
use borrow.Author.Tests.{eq-eqb, ne_eqb, eqb-true, le-leb, lt-leb}
use Rattle.value.specs.Pattern.{pick}
use Rattle.slot.specs.Slot.{slot, put}
use Rattle.fold.specs.Fresh.{Means, evaluated}
use Rattle.entries.specs.Depend.{Leads, depends, touched, tally}
use Rattle.fold.specs.Change.{with_content, changed}
use Rattle.fold.specs.Demand.{Changed}
use Rattle.fold.specs.Inside.{marked_from}
use Rattle.fold.proofs.Evaluated.{Filled, Local, alike, only, is_filled, evaluated_more, evaluated_none}
use Rattle.entries.proofs.Chains.{touched_self, not_before, untouched_uses, depends_leads, leads_after, touched_leads, not_touched, depends_tells, tells_tally}
use Rattle.low.proofs.Tests.{one_of, or_none}

-- all n entries worked out
abbrev pub evaluated_all : Means → ℕ → List ℕ → List ℕ
evaluated_all m n l = evaluated m (λ k. true) n l

-- meanings that look at earlier entries alone
pub record Ordered (m : Means) (refs : ℕ → List ℕ) : Type 0 where
  pub earlier : (k j : ℕ) → Memᴰ j (refs k) → j < k
  pub local : Local (λ k j. Memᴰ j (refs k)) m

pub content_here : (m : Means) (i : ℕ) (c l : List ℕ) → with_content m i c i l ≡ c
unfolding with_content
content_here m i c l = rw (eq-eqb i i refl)

pub content_elsewhere : (m : Means) (i : ℕ) (c : List ℕ) (k : ℕ) (l : List ℕ) → k ≢ i → with_content m i c k l ≡ m k l
unfolding with_content
content_elsewhere m i c k l ne = rw (ne_eqb k i ne)

or_left_of : (a b : Bool) → b ≡ false → (a || b) ≡ true → a ≡ true
or_left_of true b e o = refl
or_left_of false b e o = sym e ∙ o

module _ (m : Means) (refs : ℕ → List ℕ) (ord : Ordered m refs) where
  abbrev Uses : ℕ → ℕ → Type 0
  Uses k j = Memᴰ j (refs k)

  -- i is an entry among n, c its new content
  module _ (i n : ℕ) (among : i < n) (c : List ℕ) (wide : length c ≡ 136) where
    content_local : Local Uses (with_content m i c)
    unfolding with_content
    content_local =
        record {
          wide = λ k l. w (eqb k i) k l;
          same = λ k l r f. s (eqb k i) k l r f;
        }
      where
        w : (b : Bool) (k : ℕ) (l : List ℕ) → length (pick b c (m k l)) ≡ 136
        w true k l = wide
        w false k l = ord.local.wide k l

        s : (b : Bool) (k : ℕ) (l r : List ℕ) → ((j : ℕ) → Memᴰ j (refs k) → slot l j ≡ slot r j) → pick b c (m k l) ≡ pick b c (m k r)
        s true k l r f = refl
        s false k l r f = ord.local.same k l r f

    pub content_ordered : Ordered (with_content m i c) refs
    content_ordered = record { earlier = ord.earlier; local = content_local }

    -- the buffer after a change
    abbrev after : List ℕ → List ℕ
    after l = evaluated (with_content m i c) (touched refs i) n l

    change_filled : (l : List ℕ) → length l ≡ 136 * n → Filled (with_content m i c) (touched refs i) n l (after l)
    change_filled l long = is_filled Uses ord.earlier (with_content m i c) content_local (touched refs i) n l long

    -- what the demand asks of the buffer is what working out gives
    asked_filled : (l r : List ℕ) (count : ℕ) → Changed m refs i c n l r count → Filled (with_content m i c) (touched refs i) n l r
    asked_filled l r count p =
        record {
          long = p.long;
          kept = λ k h e.
              p.kept k h (λ q. false≢true (sym e ∙ ap (touched refs i) q ∙ touched_self refs i ord.earlier)) (λ q. false≢true (sym e ∙ touched_leads refs i ord.earlier q));
          works = λ k h e.
              ⊎_elim
              (λ t. let q = eqb-true k i t in rw q (p.own ∙ sym (content_here m i c r)))
              (λ t. let q = depends_leads refs i ord.earlier k t in p.works k h q ∙ sym (content_elsewhere m i c k r (λ z. let b = leads_after refs i ord.earlier q in omega arith)))
              (one_of (eqb k i) _ e);
        }

    -- a change is what the demand asks
    pub changed_is : (l : List ℕ) → length l ≡ 136 * n → Changed m refs i c n l (changed m refs i c n l) (tally (depends refs i) n)
    unfolding changed
    changed_is l long =
        record {
          long = p.long;
          kept = λ k h ne nl. p.kept k h (not_touched refs i ord.earlier k ne nl);
          own = p.works i among (touched_self refs i ord.earlier) ∙ content_here m i c _;
          works = λ k h q. p.works k h (touched_leads refs i ord.earlier q) ∙ content_elsewhere m i c k _ (λ z. let b = leads_after refs i ord.earlier q in omega arith);
          counted = λ t s. tells_tally refs i n (depends refs i) t (depends_tells refs i ord.earlier n) s;
        }
      where
        p : Filled (with_content m i c) (touched refs i) n l (after l)
        p = change_filled l long

    -- and nothing else is
    pub changed_only : (l r : List ℕ) (count : ℕ) → length l ≡ 136 * n → Changed m refs i c n l r count → (r ≡ changed m refs i c n l) × (count ≡ tally (depends refs i) n)
    unfolding changed
    changed_only l r count long p = (
      only Uses ord.earlier (with_content m i c) content_local (touched refs i) n l _ _ (asked_filled l r count p) (change_filled l long),
      p.counted (depends refs i) (depends_tells refs i ord.earlier n),
    )

    -- fresh results become the fresh results for the changed setting
    pub changed_fresh : (l : List ℕ) → length l ≡ 136 * n → changed m refs i c n (evaluated_all m n l) ≡ evaluated_all (with_content m i c) n l
    unfolding changed
    changed_fresh l long =
        alike Uses ord.earlier (with_content m i c) content_local n _ _ (λ k h. inr (by k h (touched refs i k) refl, new.works k h refl)) did.long new.long
      where
        old : Filled m (λ k. true) n l (evaluated_all m n l)
        old = is_filled Uses ord.earlier m ord.local (λ k. true) n l long

        did : Filled (with_content m i c) (touched refs i) n (evaluated_all m n l) (after (evaluated_all m n l))
        did = change_filled (evaluated_all m n l) old.long

        new : Filled (with_content m i c) (λ k. true) n l (evaluated_all (with_content m i c) n l)
        new = is_filled Uses ord.earlier (with_content m i c) content_local (λ k. true) n l long

        by : (k : ℕ) → k < n → (b : Bool) → touched refs i k ≡ b → slot (after (evaluated_all m n l)) k ≡ with_content m i c k (after (evaluated_all m n l))
        by k h true e = did.works k h e
        by k h false e =
            did.kept k h e ∙ old.works k h refl
            ∙ sym (content_elsewhere m i c k (evaluated_all m n l) (λ q. false≢true (sym e ∙ ap (touched refs i) q ∙ touched_self refs i ord.earlier)))
            ∙ content_local.same k _ _ (λ j u. let b = ord.earlier k j u in sym (did.kept j (omega arith) (untouched_uses refs i ord.earlier k j e u)))

  -- fresh results do not depend on what the buffer held
  pub all_any : (n : ℕ) (l r : List ℕ) → length l ≡ 136 * n → length r ≡ 136 * n → evaluated_all m n l ≡ evaluated_all m n r
  all_any n l r hl hr = alike Uses ord.earlier m ord.local n _ _ (λ k h. inr (x.works k h refl, y.works k h refl)) x.long y.long
    where
      x : Filled m (λ k. true) n l (evaluated_all m n l)
      x = is_filled Uses ord.earlier m ord.local (λ k. true) n l hl

      y : Filled m (λ k. true) n r (evaluated_all m n r)
      y = is_filled Uses ord.earlier m ord.local (λ k. true) n r hr

-- ---- two settings
module _ (m : Means) (refs : ℕ → List ℕ) (ord : Ordered m refs) (n : ℕ) (l : List ℕ) (long : length l ≡ 136 * n) where
  -- an entry that refers to none depends on no other
  setting_untouched : (i j : ℕ) → i ≢ j → refs i ≡ [] → touched refs j i ≡ false
  setting_untouched i j ne e = not_touched refs j ord.earlier i ne (λ q. none q)
    where
      none : Leads refs j i → ⊥
      none (Leads.direct h) = mathlib.Core.List.Memᴰ.not-nil (rw e at h)
      none (Leads.chained h q) = mathlib.Core.List.Memᴰ.not-nil (rw e at h)

  -- the buffer after both
  both : (i j : ℕ) (a b : List ℕ) → i < n → j < n → i ≢ j → refs i ≡ [] → length a ≡ 136 → length b ≡ 136
      → Filled (with_content (with_content m i a) j b) (λ k. touched refs i k || touched refs j k) n l (changed m refs j b n (changed m refs i a n l))
  unfolding changed with_content
  both i j a b hi hj ne si la lb =
      record {
        long = q.long;
        kept = λ k h e. let none = or_none (touched refs i k) _ e in q.kept k h none.1 ∙ p.kept k h none.0;
        works = λ k h e. by k h (touched refs j k) refl e;
      }
    where
      one : List ℕ
      one = evaluated (with_content m i a) (touched refs i) n l

      loc : Local (λ k j. Memᴰ j (refs k)) (with_content m i a)
      loc = content_local m refs ord i n hi a la

      p : Filled (with_content m i a) (touched refs i) n l one
      p = is_filled (λ k j. Memᴰ j (refs k)) ord.earlier (with_content m i a) loc (touched refs i) n l long

      q : Filled (with_content m j b) (touched refs j) n one (evaluated (with_content m j b) (touched refs j) n one)
      q = is_filled (λ k j. Memᴰ j (refs k)) ord.earlier (with_content m j b) (content_local m refs ord j n hj b lb) (touched refs j) n one p.long

      last : List ℕ
      last = evaluated (with_content m j b) (touched refs j) n one

      by : (k : ℕ) → k < n → (t : Bool) → touched refs j k ≡ t → (touched refs i k || touched refs j k) ≡ true → slot last k ≡ with_content (with_content m i a) j b k last
      by k h true e o =
          q.works k h e
          ∙ ap (pick (eqb k j) b) (sym (content_elsewhere m i a k last (λ z. false≢true (sym (setting_untouched i j ne si) ∙ ap (touched refs j) (sym z) ∙ e))))
      by k h false e o =
          q.kept k h e
          ∙ p.works k h (or_left_of (touched refs i k) _ e o)
          ∙ loc.same k one last (λ x u. let s = ord.earlier k x u in sym (q.kept x (omega arith) (untouched_uses refs j ord.earlier k x e u)))
          ∙ sym (content_elsewhere (with_content m i a) j b k last (λ z. false≢true (sym e ∙ ap (touched refs j) z ∙ touched_self refs j ord.earlier)))

  -- changes of two different settings commute, from any buffer
  pub commute : (i j : ℕ) (a b : List ℕ) → i < n → j < n → i ≢ j → refs i ≡ [] → refs j ≡ [] → length a ≡ 136 → length b ≡ 136
      → changed m refs j b n (changed m refs i a n l) ≡ changed m refs i a n (changed m refs j b n l)
  unfolding with_content
  commute i j a b hi hj ne si sj la lb =
      only (λ k j. Memᴰ j (refs k)) ord.earlier (with_content (with_content m i a) j b)
      (content_local (with_content m i a) refs (content_ordered m refs ord i n hi a la) j n hj b lb) (λ k. touched refs i k || touched refs j k) n l _ _
      x (record {
        long = y.long;
        kept = λ k h e. y.kept k h (or_comm (touched refs j k) _ ∙ e);
        works = λ k h e. y.works k h (or_comm (touched refs j k) _ ∙ e) ∙ swap k _ (eqb k j) refl (eqb k i) refl;
      })
    where
      x : Filled (with_content (with_content m i a) j b) (λ k. touched refs i k || touched refs j k) n l (changed m refs j b n (changed m refs i a n l))
      x = both i j a b hi hj ne si la lb

      y : Filled (with_content (with_content m j b) i a) (λ k. touched refs j k || touched refs i k) n l (changed m refs i a n (changed m refs j b n l))
      y = both j i b a hj hi (λ z. ne (sym z)) sj lb la

      swap : (k : ℕ) (r : List ℕ) (s : Bool) → eqb k j ≡ s → (t : Bool) → eqb k i ≡ t → with_content (with_content m j b) i a k r ≡ with_content (with_content m i a) j b k r
      swap k r true p true q = absurd (ne (sym (eqb-true k i q) ∙ eqb-true k j p))
      swap k r true p false q = rw (p, q)
      swap k r false p true q = rw (p, q)
      swap k r false p false q = rw (p, q)

-- ---- a change as it is made: the content is put, then the marked entries after it are worked
module _ (m : Means) (refs : ℕ → List ℕ) (earlier : (k j : ℕ) → Memᴰ j (refs k) → j < k) (i : ℕ) (c l : List ℕ) where
  -- the buffer after the turns of the first k entries
  abbrev turned : ℕ → List ℕ
  turned k = evaluated (with_content m i c) (touched refs i) k l

  -- before the setting nothing is chosen, and its own turn puts the content
  turned_own : turned (i + 1) ≡ put l i c
  turned_own =
      let none : turned i ≡ l = evaluated_none _ (touched refs i) i l (λ j q. not_before refs i earlier j q) in
      evaluated_more _ (touched refs i) i l ∙ rw (touched_self refs i earlier, none, content_here m i c l)

  module _ (marks : List Bool) (n : ℕ) (right : (k : ℕ) → k < n → get_or marks k false ≡ touched refs i k) where
    turned_on : (j : ℕ) → i + 1 + j ≤ n → turned (i + 1 + j) ≡ evaluated m (marked_from (i + 1) marks) (i + 1 + j) (put l i c)
    turned_on zero h =
        let e : i + 1 + 0 ≡ i + 1 = omega arith in
        rw e (turned_own ∙ sym (evaluated_none m (marked_from (i + 1) marks) (i + 1) (put l i c) (λ k q. rw (lt-leb (i + 1) k q))))
    turned_on (suc j) h =
        let e : i + 1 + suc j ≡ (i + 1 + j) + 1 = omega arith in
        let k = i + 1 + j in
        let chosen : marked_from (i + 1) marks k ≡ touched refs i k = rw (le-leb (i + 1) k (omega arith)) (right k (omega arith)) in
        rw e
        (evaluated_more (with_content m i c) (touched refs i) k l
        ∙ ap (λ (t : List ℕ). pick (touched refs i k) (put (turned k) k t) (turned k)) (content_elsewhere m i c k (turned k) (omega arith))
        ∙ ap (λ (t : List ℕ). pick (touched refs i k) (put t k (m k t)) t) (turned_on j (omega arith))
        ∙ ap (λ (b : Bool). pick b (put (later k) k (m k (later k))) (later k)) (sym chosen)
        ∙ sym (evaluated_more m (marked_from (i + 1) marks) k (put l i c)))
      where
        later : ℕ → List ℕ
        later k = evaluated m (marked_from (i + 1) marks) k (put l i c)

    pub changed_marked : i < n → evaluated m (marked_from (i + 1) marks) n (put l i c) ≡ changed m refs i c n l
    unfolding changed
    changed_marked h = let e : i + 1 + (n - (i + 1)) ≡ n = omega arith in rw e at (sym (turned_on (n - (i + 1)) (omega arith)))
