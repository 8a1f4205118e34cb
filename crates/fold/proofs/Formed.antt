-- Every slot that fresh evaluation or a change writes is well formed: what an entry of an accepted sheet means is, whatever the buffer holds.
use mathlib.Core.Path.{◌≡◌, refl, sym, ap, ◌∙◌}
use mathlib.Core.List.{List, ◌∷◌, Memᴰ}
use mathlib.Core.Bool.{Bool, true, false, false≢true}
use mathlib.Core.Logic.{⊎_elim, ◌⊎◌, inl, inr}
use Prim.Native.Nat.{ℕ, zero, suc, ◌*◌, ◌≤◌, ◌<◌}
use native.Mathlib.Omega.{arith}
use native.Mathlib.Nat.{le_of_suc-le-suc, not-suc-le-zero}
use lib.Dec.{eqb}
use lib.ListN.{length, get_or, replicate, length-replicate, get_or-replicate, get_or-eq_default}
use borrow.Author.Tests.{eq-eqb, eqb-true}
use Rattle.integer.proofs.Order.{le_or_lt}
use Rattle.low.specs.Read.{found, must}
use Rattle.types.specs.Edition.{Edition}
use Rattle.value.specs.Pattern.{proper_of, kept_of}
use Rattle.value.proofs.Sound.{kept_once, kept_proper}
use Rattle.operand.specs.Operand.{a_scalar}
use Rattle.operand.specs.Outcome.{value_of}
use Rattle.operand.proofs.Answers.{Fine}
use Rattle.operand.proofs.Shapes.{formed_shape, formed_one, shape_in_lem}
use Rattle.slot.specs.Slot.{slot, formed, well_formed}
use Rattle.slot.proofs.Written.{formed_value, written}
use Rattle.sheet.specs.Sheet.{Sheet, read_sheet}
use Rattle.entries.specs.Entries.{entry_at, refs_of}
use Rattle.entries.specs.Depend.{Leads, touched}
use Rattle.entries.proofs.Chains.{touched_self, depends_leads, touched_leads}
use Rattle.low.proofs.Tests.{one_of}
use Rattle.entries.proofs.Places.{few, sound_at}
use Rattle.work.specs.Meaning.{entry_meaning}
use Rattle.work.proofs.Formed.{entry_formed}
use Rattle.fold.specs.Fresh.{means_of, fresh, fresh_bytes}
use Rattle.fold.specs.Change.{content, fault_of, change_bytes}
use Rattle.fold.proofs.Evaluated.{Filled, is_filled}
use Rattle.fold.proofs.Answers.{no_fault}
use Rattle.fold.proofs.Theorems.{ord, demand}

-- ---- new content whose pattern is proper
zeros_at : (m i : ℕ) → ◌≡◌ {A = ℕ} (get_or (replicate m 0) i 0) 0
zeros_at m i =
    ⊎_elim
    (λ (q : m ≤ i). get_or-eq_default (replicate m 0) 0 {n = i} (omega (arith, length-replicate {A = ℕ} m 0)))
    (λ (q : i < m). get_or-replicate m i 0 0 q)
    (le_or_lt m i)

content_formed : (ed : Edition) (ty bits : ℕ) → proper_of ty bits ≡ true → formed ed (value_of (content ty bits)) ≡ true
unfolding content
content_formed ed ty bits p = formed_value ed (content ty bits) (shape_in_lem ed ty 1 1 ∙ formed_shape (a_scalar ty bits) (formed_one ty bits ∙ p)) used rest
  where
    used : (i : ℕ) → i < 1 → Fine ty (get_or (kept_of ty bits ∷ replicate 15 0) i 0)
    used zero h = (kept_proper ty bits p, kept_once ty bits)
    used (suc i) h = absurd (not-suc-le-zero (le_of_suc-le-suc h))

    rest : (i : ℕ) → 1 ≤ i → get_or (kept_of ty bits ∷ replicate 15 0) i 0 ≡ 0
    rest zero h = absurd (not-suc-le-zero h)
    rest (suc i) h = zeros_at 15 i

-- ---- a sheet that was accepted
module _ (s : List ℕ) (es : Sheet) (z : ℕ) (good : read_sheet s ≡ found es z) where
  -- what an entry means is well formed, over any buffer
  pub meaning_formed : (k : ℕ) → k < length es.entries → (l : List ℕ) → formed es.edition (entry_meaning es.edition l (entry_at es k)) ≡ true
  meaning_formed k h l = entry_formed es.edition l k (omega (arith, few s es z good)) (entry_at es k) (sound_at s es z good k h)

  -- a slot that holds what its entry means is well formed
  holds_formed : (k : ℕ) → k < length es.entries → (l r : List ℕ) → slot r k ≡ means_of es k l → well_formed es.edition (slot r k) ≡ true
  unfolding means_of
  holds_formed k h l r e = ap (well_formed es.edition) e ∙ written es.edition (entry_meaning es.edition l (entry_at es k)) (meaning_formed k h l)

  -- after fresh evaluation every slot is well formed
  pub fresh_formed : (l : List ℕ) → length l ≡ 136 * length es.entries → (k : ℕ) → k < length es.entries → well_formed es.edition (slot (fresh_bytes (read_sheet s) l) k) ≡ true
  unfolding fresh_bytes must fresh
  fresh_formed l long k h =
      rw (good, eq-eqb (length l) (136 * length es.entries) long)
      (holds_formed k h (fresh es l) (fresh es l) (all.works k h refl))
    where
      all : Filled (means_of es) (λ j. true) (length es.entries) l (fresh es l)
      all = is_filled (λ i j. Memᴰ j (refs_of es i)) (ord s es z good).earlier (means_of es) (ord s es z good).local (λ j. true) (length es.entries) l long

  module _ (l : List ℕ) (i ty bits : ℕ) (ok : fault_of es (length l) i ty bits ≡ 0) where
    -- after a change that no check refuses the setting's own slot is well formed, and so is every dependent's
    pub changed_formed : (k : ℕ) → k < length es.entries → (k ≡ i) ⊎ Leads (refs_of es) i k → well_formed es.edition (slot (change_bytes (read_sheet s) l i ty bits) k) ≡ true
    changed_formed k h (inl q) =
        ap (λ (j : ℕ). well_formed es.edition (slot (change_bytes (read_sheet s) l i ty bits) j)) q
        ∙ ap (well_formed es.edition) (demand s es z good l i ty bits ok).2.own
        ∙ written es.edition (value_of (content ty bits)) (content_formed es.edition ty bits (no_fault es (length l) i ty bits ok).proper)
    changed_formed k h (inr q) =
        holds_formed k h (change_bytes (read_sheet s) l i ty bits) (change_bytes (read_sheet s) l i ty bits) ((demand s es z good l i ty bits ok).2.works k h q)

    -- and a slot that was well formed stays so
    pub stays_formed : (k : ℕ) → k < length es.entries → well_formed es.edition (slot l k) ≡ true → well_formed es.edition (slot (change_bytes (read_sheet s) l i ty bits) k) ≡ true
    stays_formed k h w = go (touched (refs_of es) i k) refl
      where
        go : (b : Bool) → touched (refs_of es) i k ≡ b → well_formed es.edition (slot (change_bytes (read_sheet s) l i ty bits) k) ≡ true
        go true e =
            changed_formed k h
            (⊎_elim (λ q. inl (eqb-true k i q)) (λ q. inr (depends_leads (refs_of es) i (ord s es z good).earlier k q)) (one_of (eqb k i) _ e))
        go false e =
            ap (well_formed es.edition) ((demand s es z good l i ty bits ok).2.kept k h
            (λ q. false≢true (sym e ∙ ap (touched (refs_of es) i) q ∙ touched_self (refs_of es) i (ord s es z good).earlier))
            (λ q. false≢true (sym e ∙ touched_leads (refs_of es) i (ord s es z good).earlier q)))
            ∙ w
