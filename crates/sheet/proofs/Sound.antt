-- What the reader lets through, said of the trees alone: literals are values, references name earlier entries, operators are known.
use mathlib.Core.Path.{◌≡◌, refl}
use mathlib.Core.Bool.{Bool, true, false}
use mathlib.Core.List.Memᴰ
use mathlib.Core.List.{List, Memᴰ}
use mathlib.Core.Logic.{⊎_elim}
use Prim.Native.Nat.{ℕ, zero, suc, ◌+◌, ◌-◌, ◌*◌, ◌≤◌, ◌<◌}
use native.Mathlib.Omega.{arith}
use lib.ListN.{length, get_or, replicate}
use lib.Dec.{eqb}
use borrow.Author.Tests.{ltb-true, leb-true, eqb-false}
use Rattle.low.specs.Read.{Read, found, refused, must}
use Rattle.low.proofs.Reading.{never, must_found, then_found, as_found}
use Rattle.types.specs.Edition.{Edition}
use Rattle.value.specs.Pattern.{pick}
use Rattle.operand.specs.declared.Instance.{Instance}
use Rattle.operand.specs.Operand.{shape_in}
use Rattle.operand.proofs.Answers.{Fine}
use Rattle.low.proofs.Tests.{both}
use Rattle.sheet.specs.declared.Kind.TheVariants.{Setting, Expression}
use Rattle.sheet.specs.Tree.{Expr, literal, reference, unary, binary, Entry, setting, expression, names, names_of}
use Rattle.sheet.specs.Stage.{stage_known, kind_of}
use Rattle.sheet.specs.Node.{all_proper, value_at, read_literal, read_reference, operator_known, operands, read_operator}
use Rattle.sheet.specs.Node.{Tag, is_literal, is_reference, is_operator, unknown, tag_of, on_tag, read_node}
use Rattle.sheet.proofs.Components.{comps_used, comps_rest}
use Rattle.sheet.proofs.Inverse.{literal_holds}
use Rattle.sheet.proofs.Accepted.{BodyHolds, a_setting, an_expression, unlike}

-- a value of a type of the edition and a shape, its components in use proper and kept, the others 0
pub record Valued (ed : Edition) (v : Instance) : Type 0 where
  pub shape : shape_in ed v.ty v.cols v.rows ≡ true
  pub used : (i : ℕ) → i < v.cols * v.rows → Fine v.ty (get_or v.comps i 0)
  pub rest : (i : ℕ) → v.cols * v.rows ≤ i → get_or v.comps i 0 ≡ 0

-- a tree of such values, of references to entries below a number and of known operators
pub data Sound (ed : Edition) (below : ℕ) : Expr → Type 0 where
  sound_literal : {v : Instance} → Valued ed v → Sound ed below (literal v)
  sound_reference : {k : ℕ} → k < below → Sound ed below (reference k)
  sound_unary : {place op : ℕ} {t : Expr} → operator_known false op ≡ true → Sound ed below t → Sound ed below (unary place op t)
  sound_binary : {place op : ℕ} {l r : Expr} → operator_known true op ≡ true → Sound ed below l → Sound ed below r → Sound ed below (binary place op l r)

-- an entry with such a value, or with such a tree in one of the three stages
pub data SoundEntry (ed : Edition) (below : ℕ) : Entry → Type 0 where
  sound_setting : {v : Instance} → Valued ed v → SoundEntry ed below (setting v)
  sound_expression : {stage : ℕ} {t : Expr} → stage ≤ 2 → Sound ed below t → SoundEntry ed below (expression stage t)

-- an expression's stage byte is one of the three stages
expression_low : (stage : ℕ) → stage_known stage ≡ true → kind_of stage ≡ Expression → stage ≤ 2
unfolding kind_of
expression_low stage h k = go (eqb stage 3) refl k
  where
    go : (b : Bool) → eqb stage 3 ≡ b → pick b Setting Expression ≡ Expression → stage ≤ 2
    go true e q = absurd (unlike Setting refl q)
    go false e q = omega (arith, leb-true stage 3 h, eqb-false stage 3 e)

-- what such a tree or entry names stands below the number
names_sound : {ed : Edition} {below : ℕ} (t : Expr) → Sound ed below t → (j : ℕ) → Memᴰ j (names t) → j < below
unfolding names
names_sound (literal v) (sound_literal h) j u = absurd (Memᴰ.not-nil u)
names_sound (reference k) (sound_reference h) j u = let e : j ≡ k = Memᴰ.eq_of_singleton u in omega arith
names_sound (unary place op t) (sound_unary h s) j u = names_sound t s j u
names_sound (binary place op l r) (sound_binary h x y) j u = ⊎_elim (λ v. names_sound l x j v) (λ v. names_sound r y j v) (Memᴰ.append_cases (names l) u)

pub names_below : {ed : Edition} {below : ℕ} (x : Entry) → SoundEntry ed below x → (j : ℕ) → Memᴰ j (names_of x) → j < below
unfolding names_of
names_below (setting v) (sound_setting h) j u = absurd (Memᴰ.not-nil u)
names_below (expression stage t) (sound_expression h s) j u = names_sound t s j u

module _ (ed : Edition) where
  pub literal_valued : (own : Bool) (b : List ℕ) (at : ℕ) (v : Instance) (n : ℕ) → read_literal ed own b at ≡ found v n → Valued ed v
  unfolding read_literal
  literal_valued own b at v n e =
      let a = must_found _ _ _ _ v n e in
      let c = must_found _ _ _ _ v n a.1 in
      let d = must_found _ _ _ _ v n c.1 in
      let f = must_found _ _ _ _ v n d.1 in
      rw (literal_holds ed own b at v n e).value
      (is (get_or b (at + 1) 0) (get_or b (at + 2) 0) (get_or b (at + 3) 0)
      (both (shape_in ed (get_or b (at + 1) 0) (get_or b (at + 2) 0) (get_or b (at + 3) 0)) _ c.0).0 f.0)
    where
      is : (ty cols rows : ℕ) → shape_in ed ty cols rows ≡ true → all_proper ty (cols * rows) b (at + 4) ≡ true → Valued ed (value_at ty cols rows (cols * rows) b (at + 4))
      is ty cols rows h p =
          record {
            shape = h;
            used = comps_used ty (cols * rows) b (replicate (16 - cols * rows) 0) (at + 4) p;
            rest = comps_rest ty (cols * rows) (16 - cols * rows) b (at + 4);
          }

  -- whatever expression was read is sound
  module _ (own : ℕ) (stages b : List ℕ) where
    abbrev All : Read Expr → Type 0
    All x = (t : Expr) (n : ℕ) → x ≡ found t n → Sound ed (length stages) t

    all_must : (g : Bool) (k p : ℕ) (x : Read Expr) → (g ≡ true → All x) → All (must g (refused k p) x)
    all_must g k p x h t n e = let w = must_found g k p x t n e in h w.0 t n w.1

    operands_sound : (two : Bool) (place op : ℕ) (f : ℕ → Read Expr) (at : ℕ) → operator_known two op ≡ true → ((a : ℕ) → All (f a)) → All (operands two place op f at)
    unfolding operands
    operands_sound false place op f at k h t n e = let w = as_found (unary place op) (f at) t n e in rw w.2 (sound_unary k (h at w.0 n w.1))
    operands_sound true place op f at k h t n e =
        let c = then_found _ _ t n e in
        let d = as_found _ _ t n c.3 in
        rw d.2 (sound_binary k (h at c.0 c.1 c.2) (h c.1 d.0 n d.1))

    tag_sound : (g : Tag) (f : ℕ → Read Expr) (at : ℕ) → ((a : ℕ) → All (f a)) → All (on_tag ed g f stages own b at)
    unfolding on_tag read_reference read_operator
    tag_sound is_literal f at h t n e = let w = as_found literal (read_literal ed false b at) t n e in rw w.2 (sound_literal (literal_valued false b at w.0 n w.1))
    tag_sound is_reference f at h t n e =
        let a = must_found _ _ _ _ t n e in
        let c = must_found _ _ _ _ t n a.1 in
        let d = must_found _ _ _ _ t n c.1 in
        let q : found (reference (get_or b (at + 1) 0)) (at + 2) ≡ found t n = d.1 in
        let u : t ≡ reference (get_or b (at + 1) 0) = cc in
        rw u (sound_reference (ltb-true (get_or b (at + 1) 0) (length stages) c.0))
    tag_sound (is_operator two) f at h t n e =
        all_must _ _ _ _ (λ _. all_must _ _ _ _ (λ k. operands_sound two at (get_or b (at + 1) 0) f (at + 2) k h)) t n e
    tag_sound unknown f at h t n e = absurd (never 25 at t n e)

    pub node_sound : (levels at : ℕ) → All (read_node ed levels stages own b at)
    unfolding read_node
    node_sound zero at t n e = absurd (never 28 at t n e)
    node_sound (suc levels) at t n e = all_must _ _ _ _ (λ _. tag_sound (tag_of (get_or b at 0)) (read_node ed levels stages own b) at (node_sound levels)) t n e

  -- and so is the entry of a body whose stage byte is known
  pub entry_sound : (stages : List ℕ) (stage : ℕ) (b : List ℕ) (x : Entry) → stage_known stage ≡ true → BodyHolds ed stages stage b x → SoundEntry ed (length stages) x
  entry_sound stages stage b x s (a_setting k v q f g) = rw q (sound_setting (literal_valued true b 0 v (length b) f))
  entry_sound stages stage b x s (an_expression k t q f) = rw q (sound_expression (expression_low stage s k) (node_sound stage stages b 32 0 t (length b) f))
