-- Which outcomes are well formed, and that a well_formed_lem outcome, once written, is a well_formed_lem slot.
use mathlib.Core.Path.{◌≡◌, refl, sym, ap, ◌∙◌}
use mathlib.Core.Bool.{Bool, true, false, ◌&&◌, ◌||◌, or-true, false≢true}
use mathlib.Core.List.{List, ◌∷◌}
use mathlib.Core.Logic.{⊎_elim, inl, inr}
use Prim.Native.Nat.{ℕ, zero, suc, ◌+◌, ◌*◌, ◌%◌, ◌^◌, ◌<◌, ◌≤◌}
use native.Mathlib.Omega.{arith}
use native.Mathlib.Nat.{eq-or-lt_of_le, le_of_suc-le-suc, not-suc-le-zero}
use native.Mathlib.Numerals.{add-one}
use lib.Dec.{eqb, leb, ltb}
use lib.ListN.{get_or}
use lib.Pow.{mod-mod-pow}
use lib.Seq.{take_at}
use borrow.Author.Tests.{ltb-true, ltb-false, lt-ltb, le-leb, lt-leb, eqb-true, eqb-false, eq-eqb}
use Rattle.types.specs.Types.{known_of, width_of, integer_of}
use Rattle.types.specs.Edition.{Edition}
use Rattle.types.proofs.Rows.{by_code}
use Rattle.value.specs.Answer.{carries}
use Rattle.value.specs.Pattern.{pick, proper_of, kept_of}
use Rattle.value.specs.Refusals as No
use Rattle.operand.proofs.Answers.{Fine, Carried, Answers}
use Rattle.operand.specs.declared.Instance.{Instance}
use Rattle.operand.specs.declared.Outcome.{Outcome}
use Rattle.operand.specs.Operand.{shape_ok, shape_in, shape_of, every, component_at, operand_formed}
use Rattle.low.specs.Bytes.{up_to, lows, whole, part, eights, numbers}
use Rattle.operand.specs.Outcome.{refused_with, value_of}
use Rattle.low.proofs.Tests.{both, one_of}
use Rattle.operand.proofs.Shapes.{shape_small, count_small, shape_in_lem}
use Rattle.operand.proofs.Every.{every_more}
use Rattle.slot.specs.Slot.{bytes_of, said_by, slot, each, component_formed, components_formed, value_formed, blank, integer_formed, beside_formed, detail_formed, formed, well_formed, reference_to}
use Rattle.low.proofs.Lows.{lows_long, whole_cut}
use Rattle.low.proofs.Eights.{numbers_cut}

-- ---- tests that follow from tests, side by side; of the kept side nothing is asked
or_both : {a b x y : Bool} → (a ≡ true → x ≡ true) → (b ≡ true → y ≡ true) → (a || b) ≡ true → (x || y) ≡ true
or_both {a} {b} {x} {y} f g e = go a x f e
  where
    go : (a x : Bool) → (a ≡ true → x ≡ true) → (a || b) ≡ true → (x || y) ≡ true
    go true x f e = rw (f refl)
    go false true f e = refl
    go false false f e = g e

and_both : {a b x y : Bool} → (a ≡ true → x ≡ true) → (b ≡ true → y ≡ true) → (a && b) ≡ true → (x && y) ≡ true
and_both {a} {b} f g e = let h = both a b e in rw (f h.0, g h.1)

none : (a b : Bool) → (a || b) ≡ false → (a ≡ false) × (b ≡ false)
none true b e = absurd (false≢true (sym e))
none false b e = (refl, e)

pick_both : (t : Bool) {a b x y : Bool} → (a ≡ true → x ≡ true) → (b ≡ true → y ≡ true) → pick t a b ≡ true → pick t x y ≡ true
pick_both true f g e = f e
pick_both false f g e = g e

or_keep : (b : Bool) {a x : Bool} → (a ≡ true → x ≡ true) → (a || b) ≡ true → (x || b) ≡ true
or_keep b f = or_both f (λ (e : b ≡ true). e)

and_keep : (a : Bool) {b y : Bool} → (b ≡ true → y ≡ true) → (a && b) ≡ true → (a && y) ≡ true
and_keep a f = and_both (λ (e : a ≡ true). e) f

-- ---- a test of each number below n holds where it holds of all, and the other way round
each_all : (p : ℕ → Bool) (n : ℕ) → ((i : ℕ) → i < n → p i ≡ true) → each p n ≡ true
unfolding each
each_all p zero f = refl
each_all p (suc n) f = rw (each_all p n (λ i h. f i (omega arith)), f n (omega arith))

each_at : (p : ℕ → Bool) (n : ℕ) → each p n ≡ true → (i : ℕ) → i < n → p i ≡ true
unfolding each
each_at p zero e i h = absurd (not-suc-le-zero h)
each_at p (suc n) e i h =
    let k = both (each p n) (p n) e in
    ⊎_elim (λ (q : i ≡ n). rw q k.1) (λ (l : i < n). each_at p n k.0 i l) (eq-or-lt_of_le (le_of_suc-le-suc h))

-- the same for the components of an operand
every_all : (p : ℕ → Bool) (f : ℕ → ℕ) (n : ℕ) → ((i : ℕ) → i < n → p (f i) ≡ true) → every p (up_to f n) ≡ true
unfolding up_to every
every_all p f zero g = refl
every_all p f (suc n) g =
    ap (λ (k : ℕ). every p (up_to f k)) (sym (add-one n)) ∙ sym (every_more p f n true true (sym (every_all p f n (λ i h. g i (omega arith)))) (sym (g n (omega arith))))

-- ---- components
-- those in use are proper and kept, the others 0
comps_formed : (ty n : ℕ) (xs : List ℕ) → ((i : ℕ) → i < n → Fine ty (get_or xs i 0)) → ((i : ℕ) → n ≤ i → get_or xs i 0 ≡ 0) → components_formed ty n xs ≡ true
unfolding components_formed component_formed
comps_formed ty n xs used rest = each_all _ 16 (λ i h. go i (ltb i n) refl)
  where
    go : (i : ℕ) (b : Bool) → ltb i n ≡ b → pick b (proper_of ty (get_or xs i 0) && eqb (kept_of ty (get_or xs i 0)) (get_or xs i 0)) (eqb (get_or xs i 0) 0) ≡ true
    go i true e = let f = used i (ltb-true i n e) in rw (f.0, eq-eqb (kept_of ty (get_or xs i 0)) (get_or xs i 0) f.1)
    go i false e = eq-eqb (get_or xs i 0) 0 (rest i (ltb-false i n e))

-- a value of a known type and shape with such components
value_kept : (e : Edition) (v : Instance) → shape_in e v.ty v.cols v.rows ≡ true → ((i : ℕ) → i < v.cols * v.rows → Fine v.ty (get_or v.comps i 0))
    → ((i : ℕ) → v.cols * v.rows ≤ i → get_or v.comps i 0 ≡ 0) → value_formed e v ≡ true
unfolding value_formed
value_kept e v h used rest = rw (h, comps_formed v.ty (v.cols * v.rows) v.comps used rest)

-- a well_formed_lem value is a well_formed_lem operand
value_good : (e : Edition) (v : Instance) → value_formed e v ≡ true → operand_formed v ≡ true
unfolding value_formed components_formed component_formed operand_formed
value_good e v f =
    let h = both (shape_in e v.ty v.cols v.rows) _ f in
    let ok : shape_ok v.ty v.cols v.rows ≡ true = sym (shape_in_lem e v.ty v.cols v.rows) ∙ h.0 in
    let few : v.cols * v.rows ≤ 16 = count_small (shape_of v) (shape_small v.ty v.cols v.rows ok) in
    rw ok (every_all (proper_of v.ty) (component_at v.comps) (v.cols * v.rows) (λ i l. used i l (each_at _ 16 h.1 i (omega arith))))
  where
    used : (i : ℕ) → i < v.cols * v.rows → component_formed v.ty (v.cols * v.rows) v.comps i ≡ true → proper_of v.ty (get_or v.comps i 0) ≡ true
    used i l q = (both (proper_of v.ty (get_or v.comps i 0)) _ (rw (lt-ltb i (v.cols * v.rows) l) at q)).0

-- ---- what does not fit its bytes is cut: a list of numbers that stands for a buffer may say more than 8 bytes hold
-- a proper pattern stays proper
proper_cut : (ty b : ℕ) → proper_of ty b ≡ true → proper_of ty (b % 256 ^ 8) ≡ true
proper_cut ty b =
    and_keep (known_of ty) (λ e. lt-ltb (b % 256 ^ 8) (2 ^ width_of ty) (omega (arith, ltb-true b (2 ^ width_of ty) e)))

-- whether a pattern is a NaN is told by its low bits
nan_cut : (j k top c b : ℕ) → c % 2 ^ (j + k) ≡ c → pick (ltb top (b % 2 ^ k)) c b ≡ b
    → pick (ltb top (b % 2 ^ (j + k) % 2 ^ k)) c (b % 2 ^ (j + k)) ≡ b % 2 ^ (j + k)
nan_cut j k top c b h = rw (mod-mod-pow b j k) (go (ltb top (b % 2 ^ k)))
  where
    go : (t : Bool) → pick t c b ≡ b → pick t c (b % 2 ^ (j + k)) ≡ b % 2 ^ (j + k)
    go true q = sym h ∙ ap (λ (x : ℕ). x % 2 ^ (j + k)) q
    go false q = refl

-- a pattern that is kept stays kept
kept_cut : (ty b : ℕ) → kept_of ty b ≡ b → kept_of ty (b % 256 ^ 8) ≡ b % 256 ^ 8
unfolding kept_of
kept_cut zero b e = refl
kept_cut (suc zero) b e = refl
kept_cut (suc (suc zero)) b e = nan_cut 1 63 0x7FF0000000000000 0x7FF8000000000000 b refl e
kept_cut (suc (suc (suc zero))) b e = refl
kept_cut (suc (suc (suc (suc zero)))) b e = refl
kept_cut (suc (suc (suc (suc (suc zero))))) b e = nan_cut 33 31 0x7F800000 0x7FC00000 b refl e
kept_cut (suc (suc (suc (suc (suc (suc zero)))))) b e = nan_cut 49 15 0x7C00 0x7E00 b refl e
kept_cut (suc (suc (suc (suc (suc (suc (suc ty))))))) b e = refl

-- so well_formed_lem components stay well formed
comps_cut : (ty n : ℕ) (xs ys : List ℕ) → ((i : ℕ) → i < 16 → get_or ys i 0 ≡ get_or xs i 0 % 256 ^ 8)
    → components_formed ty n xs ≡ true → components_formed ty n ys ≡ true
unfolding components_formed component_formed
comps_cut ty n xs ys cut e = each_all _ 16 (λ i h. rw (cut i h) (go (ltb i n) (get_or xs i 0) (each_at _ 16 e i h)))
  where
    go : (b : Bool) (x : ℕ) → pick b (proper_of ty x && eqb (kept_of ty x) x) (eqb x 0) ≡ true
        → pick b (proper_of ty (x % 256 ^ 8) && eqb (kept_of ty (x % 256 ^ 8)) (x % 256 ^ 8)) (eqb (x % 256 ^ 8) 0) ≡ true
    go true x q = and_both (proper_cut ty x) (λ z. eq-eqb (kept_of ty (x % 256 ^ 8)) (x % 256 ^ 8) (kept_cut ty x (eqb-true (kept_of ty x) x z))) q
    go false x q = eq-eqb (x % 256 ^ 8) 0 (ap (λ (k : ℕ). k % 256 ^ 8) (eqb-true x 0 q))

-- ---- a well_formed_lem outcome, once written, is a well_formed_lem slot
pub written : (e : Edition) (o : Outcome) → formed e o ≡ true → well_formed e (bytes_of o) ≡ true
unfolding well_formed formed value_formed blank integer_formed said_by bytes_of part
written e o =
    or_both
    (and_both (and_keep (eqb o.status 0) zero_detail) value)
    (and_both
    (and_keep (leb 1 o.status && leb o.status 11)
    (or_both (or_keep (carries o.status) zero_detail) (and_keep (eqb o.status 11) low_detail)))
    (pick_both (carries o.status)
    (and_keep (integer_of o.value.ty && eqb o.value.cols 1 && eqb o.value.rows 1) value)
    (and_keep (eqb o.value.ty 0 && eqb o.value.cols 0 && eqb o.value.rows 0) (comps 0 0))))
  where
    h : List ℕ
    h = o.status ∷ o.value.ty ∷ o.value.cols ∷ o.value.rows ∷ lows 4 o.detail

    detail : whole (part (bytes_of o) 4 4) ≡ o.detail % 256 ^ 4
    detail = ap whole (take_at (lows 4 o.detail) (eights 16 o.value.comps) 4 (lows_long 4 o.detail)) ∙ whole_cut 4 o.detail

    zero_detail : eqb o.detail 0 ≡ true → eqb (whole (part (bytes_of o) 4 4)) 0 ≡ true
    zero_detail q = eq-eqb (whole (part (bytes_of o) 4 4)) 0 (omega (arith, detail, eqb-true o.detail 0 q))

    low_detail : ltb o.detail 128 ≡ true → ltb (whole (part (bytes_of o) 4 4)) 128 ≡ true
    low_detail q = lt-ltb (whole (part (bytes_of o) 4 4)) 128 (omega (arith, detail, ltb-true o.detail 128 q))

    comps : (ty n : ℕ) → components_formed ty n o.value.comps ≡ true → components_formed ty n (numbers 16 (bytes_of o) 8) ≡ true
    comps ty n = comps_cut ty n o.value.comps (numbers 16 (bytes_of o) 8) (numbers_cut 16 h o.value.comps 8 (omega (arith, lows_long 4 o.detail)))

    value : value_formed e o.value ≡ true → value_formed e (said_by (bytes_of o)).value ≡ true
    value = and_keep (shape_in e o.value.ty o.value.cols o.value.rows) (comps o.value.ty (o.value.cols * o.value.rows))

-- ---- which outcomes are well formed
-- a value of a known type and shape, whose components in use are proper and kept, the others 0
pub formed_value : (e : Edition) (v : Instance) → shape_in e v.ty v.cols v.rows ≡ true → ((i : ℕ) → i < v.cols * v.rows → Fine v.ty (get_or v.comps i 0))
    → ((i : ℕ) → v.cols * v.rows ≤ i → get_or v.comps i 0 ≡ 0) → formed e (value_of v) ≡ true
unfolding formed
formed_value e v h used rest = rw (value_kept e v h used rest)

-- a refusal by a number from 1 to 11 with such a detail, beside what may stand there
refusal_formed : (e : Edition) (o : Outcome) → 1 ≤ o.status → o.status ≤ 11 → detail_formed o.status o.detail ≡ true → beside_formed e o.status o.value ≡ true
    → formed e o ≡ true
unfolding formed
refusal_formed e o lo hi h k =
    rw (le-leb 1 o.status lo, le-leb o.status 11 hi, h, k) (or-true (eqb o.status 0 && eqb o.detail 0 && value_formed e o.value))

-- one that carries nothing, beside zeros
zeros_formed : (e : Edition) (n d : ℕ) → carries n ≡ false → 1 ≤ n → n ≤ 11 → detail_formed n d ≡ true → formed e (refused_with n d) ≡ true
unfolding blank components_formed component_formed each
zeros_formed e n d c lo hi h = refusal_formed e (refused_with n d) lo hi h (rw c)

-- an integer as a scalar is one that a shift's refusal carries
one_shaped : (ty : ℕ) → integer_of ty ≡ true → shape_ok ty 1 1 ≡ true
one_shaped =
    by_code (λ ty. integer_of ty ≡ true → shape_ok ty 1 1 ≡ true) (λ e. refl) (λ e. refl) (λ e. refl) (λ e. refl) (λ e. refl) (λ e. refl) (λ e. refl)
    (λ n e. absurd (false≢true e))

integer_kept : (e : Edition) (v : Instance) → Carried v → integer_formed e v ≡ true
unfolding integer_formed value_formed components_formed component_formed each
integer_kept e v c =
    let b : ℕ = get_or v.comps 0 0 in
    ap (integer_formed e) c.alone
    ∙ rw (c.integer, shape_in_lem e v.ty 1 1, one_shaped v.ty c.integer, c.fine.0, eq-eqb (kept_of v.ty b) b c.fine.1)

-- whatever an operator answers
pub answers_formed : (e : Edition) (o : Outcome) → Answers o → formed e o ≡ true
unfolding formed
answers_formed e o (inl a) =
    let shape = shape_in_lem e o.value.ty o.value.cols o.value.rows ∙ a.shape in
    rw (eq-eqb o.status 0 a.status, eq-eqb o.detail 0 a.detail, value_kept e o.value shape a.parts.used a.parts.rest)
answers_formed e o (inr a) = go (carries o.status) refl
  where
    go : (t : Bool) → carries o.status ≡ t → formed e o ≡ true
    go true c =
        refusal_formed e o a.low (omega (arith, a.high)) (rw (c, or-true (eqb o.detail 0))) (rw c (integer_kept e o.value (a.carried c)))
    go false c =
        let ne = none (eqb o.status 9) (eqb o.status 10) c in
        ap (formed e) (a.zeros c)
        ∙ zeros_formed e o.status o.detail c a.low (omega (arith, a.high)) (rw (eq-eqb o.detail 0 (a.plain (eqb-false o.status 9 ne.0) (eqb-false o.status 10 ne.1))))

-- a reference to one of 128 entries, whatever its slot holds
pub reference_formed : (e : Edition) (l : List ℕ) (k : ℕ) → k < 128 → formed e (reference_to e l k) ≡ true
unfolding reference_to well_formed
reference_formed e l k h = go (eqb (said_by (slot l k)).status 0) (formed e (said_by (slot l k))) refl
  where
    from_entry : formed e (refused_with No.FromEntry k) ≡ true
    from_entry = zeros_formed e 11 k refl (omega arith) (omega arith) (rw (lt-ltb k 128 h) (or-true (eqb k 0 || false)))

    go : (a b : Bool) → formed e (said_by (slot l k)) ≡ b → formed e (pick (a && b) (said_by (slot l k)) (refused_with No.FromEntry k)) ≡ true
    go true true q = q
    go true false q = from_entry
    go false b q = from_entry

-- the value of a well_formed_lem outcome of status 0 is a well_formed_lem operand
pub formed_good : (e : Edition) (o : Outcome) → formed e o ≡ true → eqb o.status 0 ≡ true → operand_formed o.value ≡ true
unfolding formed
formed_good e o f q =
    let z : leb 1 o.status ≡ false = lt-leb 1 o.status (omega (arith, eqb-true o.status 0 q)) in
    ⊎_elim
    (λ p. value_good e o.value (both (eqb o.status 0 && eqb o.detail 0) _ p).1)
    (λ p. absurd (false≢true (rw z at p)))
    (one_of (eqb o.status 0 && eqb o.detail 0 && value_formed e o.value) _ f)
