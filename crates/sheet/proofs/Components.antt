-- Laws of a literal's components: one taken off the front, one put at the end, and how many a shape has.
use mathlib.Core.Path.{◌≡◌, refl, sym, ap, ◌∙◌}
use mathlib.Core.Bool.{Bool, true, false, ◌&&◌, ◌||◌, not}
use mathlib.Core.List.{List, [], ◌∷◌, ◌++◌, map, map-append}
use mathlib.Core.Logic.{⊎_elim}
use Prim.Native.Nat.{ℕ, zero, suc, ◌+◌, ◌*◌, ◌-◌, ◌<◌, ◌≤◌}
use native.Mathlib.Nat.{mul-le-mul, le_antisymm, le_of_suc-le-suc, not-suc-le-zero}
use native.Mathlib.Numerals.{add-one}
use native.Mathlib.Omega.{arith}
use lib.Dec.{eqb}
use lib.ListN.{length, get_or, set, replicate, length-map, length-replicate, get_or-replicate, get_or-eq_default}
use Rattle.std.specs.List.{list_all, range_with_len}
use Rattle.integer.proofs.Order.{le_or_lt}
use Rattle.low.specs.Bytes.{whole, part, numbers}
use Rattle.low.proofs.Eights.{numbers_long, numbers_snoc, one_set}
use Rattle.types.specs.Types.{concrete_of}
use Rattle.types.specs.Edition.{Edition, plain}
use Rattle.value.specs.Pattern.{proper_of, kept_of}
use Rattle.value.proofs.Sound.{kept_once, kept_proper}
use Rattle.operand.specs.Operand.{shape_ok, shape_in, every}
use Rattle.low.proofs.Tests.{both}
use Rattle.operand.proofs.Answers.{Fine}
use Rattle.operand.proofs.Shapes.{shape_small, shape_in_lem}
use Rattle.sheet.specs.declared.literals.LiteralHead.{LiteralHead}
use Rattle.sheet.specs.Node.{all_proper, components, literal_ok}

-- ---- every component proper
-- as the code goes, by the number of each, from number k on
pub by_number : (ty : ℕ) (b : List ℕ) (at k n : ℕ) → list_all (λ i. proper_of ty (whole (part b (at + 8 * i) 8))) (range_with_len k n) ≡ all_proper ty n b (at + 8 * k)
unfolding all_proper every numbers
by_number ty b at k zero = refl
by_number ty b at k (suc n) =
    let e : at + 8 * (k + 1) ≡ at + 8 * k + 8 = omega arith in
    ap (λ (x : Bool). proper_of ty (whole (part b (at + 8 * k) 8)) && x) (by_number ty b at (k + 1) n ∙ ap (all_proper ty n b) e)

-- ---- the components in an array of 16
length_components : (ty n : ℕ) (b : List ℕ) (at : ℕ) → length (components ty n b at) ≡ n
unfolding components
length_components ty n b at = length-map (numbers n b at) (kept_of ty) ∙ numbers_long n b at

components_end : (ty n : ℕ) (b : List ℕ) (at : ℕ) → components ty (suc n) b at ≡ components ty n b at ++ kept_of ty (whole (part b (at + 8 * n) 8)) ∷ []
unfolding components
components_end ty n b at = ap (map (kept_of ty)) (numbers_snoc n b at) ∙ map-append (kept_of ty) (numbers n b at) (whole (part b (at + 8 * n) 8) ∷ [])

abbrev pub loaded : ℕ → ℕ → List ℕ → ℕ → List ℕ
loaded ty n b at = components ty n b at ++ replicate (16 - n) 0

pub none_loaded : (ty : ℕ) (b : List ℕ) (at : ℕ) → replicate 16 0 ≡ loaded ty 0 b at
unfolding components numbers
none_loaded ty b at = refl

pub one_loaded : (ty : ℕ) (out b : List ℕ) (at n w v : ℕ) → n < 16 → out ≡ loaded ty n b at → w ≡ whole (part b (at + 8 * n) 8) → v ≡ kept_of ty w
    → set out n v ≡ loaded ty (n + 1) b at
one_loaded ty out b at n w v h e q k =
    ap (λ (l : List ℕ). set l n v) e
    ∙ one_set (components ty n b at) n v h (length_components ty n b at)
    ∙ ap (λ (x : ℕ). (components ty n b at ++ x ∷ []) ++ replicate (16 - (n + 1)) 0) (k ∙ ap (kept_of ty) q)
    ∙ ap (λ (l : List ℕ). l ++ replicate (16 - (n + 1)) 0) (sym (components_end ty n b at) ∙ ap (λ (j : ℕ). components ty j b at) (sym (add-one n)))

pub all_loaded : (ty : ℕ) (out b : List ℕ) (at i n : ℕ) → i ≤ n → n ≤ i → out ≡ loaded ty i b at → out ≡ loaded ty n b at
all_loaded ty out b at i n h k e = e ∙ ap (λ (j : ℕ). loaded ty j b at) (le_antisymm h k)

-- ---- what they are
-- those in use are proper and kept
pub comps_used : (ty n : ℕ) (b t : List ℕ) (at : ℕ) → all_proper ty n b at ≡ true → (i : ℕ) → i < n → Fine ty (get_or (components ty n b at ++ t) i 0)
unfolding all_proper components numbers every
comps_used ty zero b t at e i h = absurd (not-suc-le-zero h)
comps_used ty (suc n) b t at e i h =
    let q = both (proper_of ty (whole (part b at 8))) (all_proper ty n b (at + 8)) e in
    go (kept_proper ty (whole (part b at 8)) q.0, kept_once ty (whole (part b at 8))) (comps_used ty n b t (at + 8) q.1) i h
  where
    go : Fine ty (kept_of ty (whole (part b at 8))) → ((i : ℕ) → i < n → Fine ty (get_or (components ty n b (at + 8) ++ t) i 0)) → (i : ℕ) → i < suc n
        → Fine ty (get_or (kept_of ty (whole (part b at 8)) ∷ (components ty n b (at + 8) ++ t)) i 0)
    go f ih zero h = f
    go f ih (suc i) h = ih i (le_of_suc-le-suc h)

-- the others are 0
pub comps_rest : (ty n m : ℕ) (b : List ℕ) (at i : ℕ) → n ≤ i → get_or (components ty n b at ++ replicate m 0) i 0 ≡ 0
unfolding components numbers
comps_rest ty zero m b at i h =
    ⊎_elim
    (λ (q : m ≤ i). get_or-eq_default (replicate m 0) 0 {n = i} (omega (arith, length-replicate {A = ℕ} m 0)))
    (λ (q : i < m). get_or-replicate m i 0 0 q)
    (le_or_lt m i)
comps_rest ty (suc n) m b at zero h = absurd (not-suc-le-zero h)
comps_rest ty (suc n) m b at (suc i) h = comps_rest ty n m b (at + 8) i (le_of_suc-le-suc h)

-- ---- a literal's type and shape, by the answers g and k of the tests of its shape and of its type
pub ok_by_tests : (g k setting : Bool) (h : LiteralHead) → g ≡ shape_ok h.ty h.cols h.rows → k ≡ concrete_of h.ty
    → g && (not setting || (k && eqb h.cols 1 && eqb h.rows 1)) ≡ literal_ok plain setting h
ok_by_tests g k setting h e q =
    ap (λ (x : Bool). x && (not setting || (k && eqb h.cols 1 && eqb h.rows 1))) (e ∙ sym (shape_in_lem plain h.ty h.cols h.rows))
    ∙ ap (λ (x : Bool). shape_in plain h.ty h.cols h.rows && (not setting || (x && eqb h.cols 1 && eqb h.rows 1))) q

-- a shape that there is has at most 16 components
pub literal_small : (ed : Edition) (setting : Bool) (h : LiteralHead) → literal_ok ed setting h ≡ true → h.cols * h.rows ≤ 16
literal_small ed setting h e =
    let f = sym (shape_in_lem ed h.ty h.cols h.rows) ∙ (both (shape_in ed h.ty h.cols h.rows) _ e).0 in
    let s = shape_small h.ty h.cols h.rows f in
    mul-le-mul s.1 s.3

-- a setting's literal is a literal
pub setting_ok : (ed : Edition) (h : LiteralHead) → literal_ok ed true h ≡ true → literal_ok ed false h ≡ true
setting_ok ed h e = rw (both (shape_in ed h.ty h.cols h.rows) _ e).0
