-- Reading a body looks at no byte past what it answers: a body as long that agrees up to there is answered alike.
use mathlib.Core.Path.{◌≡◌, refl, sym, ap, subst, ◌∙◌}
use mathlib.Core.Bool.{Bool, true, false}
use mathlib.Core.List.{List, ◌∷◌, ◌++◌, map}
use Prim.Native.Nat.{ℕ, zero, suc, ◌+◌, ◌*◌, ◌-◌, ◌≤◌}
use native.Mathlib.Omega.{arith}
use lib.Dec.{leb, ltb, eqb}
use lib.ListN.{length, get_or, replicate}
use borrow.Author.Tests.{leb-true}
use Rattle.types.specs.Edition.{plain}
use Rattle.value.specs.Pattern.{proper_of, kept_of}
use Rattle.value.specs.Refusals as No
use Rattle.operand.specs.Operand.{every}
use Rattle.low.specs.Bytes.{whole, part, numbers}
use Rattle.low.proofs.Lows.{whole_part}
use Rattle.low.specs.Read.{Read, found, refused, must, then_read, read_as, there}
use Rattle.sheet.specs.Node.{cut, all_proper, components, literal_head, literal_count, literal_ok, read_components, read_literal, read_reference, operator_known, operands, read_operator}
use Rattle.sheet.specs.Tree.{Expr, literal, reference, unary, binary, setting, expression}
use Rattle.sheet.specs.Node.{Tag, is_literal, is_reference, is_operator, unknown, tag_of, on_tag, read_node}
use Rattle.sheet.specs.declared.Kind.{Kind}
use Rattle.sheet.specs.declared.Kind.TheVariants.{Setting, Expression}
use Rattle.sheet.specs.Stage.{kind_of}
use Rattle.sheet.specs.Record.{read_setting, read_kind, read_body}
use Rattle.sheet.proofs.Components.{literal_small}
use Rattle.sheet.proofs.Inverse.{node_ends}
use Rattle.writer.specs.Refused.{extent, Agree}

-- how far what was answered was looked at
unfoldable pub looked : {A : Type 0} → Read A → ℕ
looked (found a n) = n
looked (refused k p) = p + extent k

pub looked_as : {A B : Type 0} (f : A → B) (x : Read A) → looked (read_as f x) ≡ looked x
unfolding looked read_as
looked_as f (found a n) = refl
looked_as f (refused k p) = refl

pub agree_less : (b c : List ℕ) (q r : ℕ) → q ≤ r → Agree r b c → Agree q b c
agree_less b c q r h a i l m = a i (omega arith) m

-- ---- one check: what is asked where it fails, and where it holds; P is what is known of the answer
pub must_same : {A : Type 0} (P : Read A → Type 0) (b c : List ℕ) (g h : Bool) (r o x y : Read A)
    → (g ≡ false → P r → Agree (looked r) b c → (h ≡ false) × (r ≡ o)) → (g ≡ true → P x → Agree (looked x) b c → (h ≡ true) × (x ≡ y))
    → P (must g r x) → Agree (looked (must g r x)) b c → must g r x ≡ must h o y
unfolding must
must_same P b c true h r o x y bad good p a = let w = good refl p a in w.1 ∙ sym (ap (λ (g : Bool). must g o y) w.0)
must_same P b c false h r o x y bad good p a = let w = bad refl p a in w.1 ∙ sym (ap (λ (g : Bool). must g o y) w.0)

-- a test of the first n bytes
pub test_same : {A : Type 0} (P : Read A → Type 0) (b c : List ℕ) (n : ℕ) (g h : Bool) (k p : ℕ) (x y : Read A) → (Agree n b c → g ≡ h) → n ≤ p + extent k
    → (g ≡ true → n ≤ looked x) → (g ≡ true → P x → Agree (looked x) b c → x ≡ y)
    → P (must g (refused k p) x) → Agree (looked (must g (refused k p) x)) b c → must g (refused k p) x ≡ must h (refused k p) y
unfolding looked
test_same P b c n g h k p x y t l m f =
    must_same P b c g h (refused k p) (refused k p) x y
    (λ z u a. (sym (t (agree_less b c n (p + extent k) l a)) ∙ z, refl))
    (λ z u a. (sym (t (agree_less b c n (looked x) (m z) a)) ∙ z, f z u a))

pub must_least : {A : Type 0} (q : ℕ) (g : Bool) (r x : Read A) → (g ≡ false → q ≤ looked r) → (g ≡ true → q ≤ looked x) → q ≤ looked (must g r x)
unfolding must
must_least q true r x bad good = good refl
must_least q false r x bad good = bad refl

-- ---- how far at least
module _ (b : List ℕ) where
  components_least : (at : ℕ) → at + 4 ≤ length b → at + 4 ≤ looked (read_components (literal_head b at) (literal_count b at) b at)
  unfolding extent looked
  components_least at l = must_least (at + 4) _ _ _ (λ z. omega arith) (λ z. must_least (at + 4) _ _ _ (λ z. omega arith) (λ z. omega arith))

  literal_least : (only : Bool) (at : ℕ) → at + 1 ≤ length b → at + 1 ≤ looked (read_literal plain only b at)
  unfolding extent looked read_literal
  literal_least only at l =
      must_least (at + 1) _ _ _ (λ z. omega arith) (λ z. must_least (at + 1) _ _ _ (λ z. omega arith)
      (λ y. let w = components_least at (leb-true (at + 4) (length b) z) in omega arith))

  reference_least : (stages : List ℕ) (own at : ℕ) → at + 1 ≤ length b → at + 1 ≤ looked (read_reference stages own b at)
  unfolding extent looked read_reference
  reference_least stages own at l =
      must_least (at + 1) _ _ _ (λ z. omega arith) (λ z. must_least (at + 1) _ _ _ (λ z. omega arith)
      (λ z. must_least (at + 1) _ _ _ (λ z. omega arith) (λ z. omega arith)))

  -- where nodes a level down are looked at from their places on
  module _ (levels : ℕ) (stages : List ℕ) (own : ℕ) (below : (a : ℕ) → a ≤ length b → a ≤ looked (read_node plain levels stages own b a)) where
    operands_least : (two : Bool) (place op at : ℕ) → at ≤ length b → at ≤ looked (operands two place op (read_node plain levels stages own b) at)
    unfolding operands looked then_read
    operands_least false place op at l = let e = looked_as (unary place op) (read_node plain levels stages own b at) in omega (arith, e, below at l)
    operands_least true place op at l = go (read_node plain levels stages own b at) refl (below at l)
      where
        go : (x : Read Expr) → read_node plain levels stages own b at ≡ x → at ≤ looked x
            → at ≤ looked (then_read x (λ u m. read_as (binary place op u) (read_node plain levels stages own b m)))
        go (found u m) e h =
            let w = node_ends plain levels stages own b at u m e in
            let k = looked_as (binary place op u) (read_node plain levels stages own b m) in
            omega (arith, k, below m w.1, w.0)
        go (refused k p) e h = h

    tag_least : (g : Tag) (at : ℕ) → at + 1 ≤ length b → at + 1 ≤ looked (on_tag plain g (read_node plain levels stages own b) stages own b at)
    unfolding extent on_tag read_operator looked
    tag_least is_literal at l = let e = looked_as literal (read_literal plain false b at) in omega (arith, e, literal_least false at l)
    tag_least is_reference at l = reference_least stages own at l
    tag_least (is_operator two) at l =
        must_least (at + 1) _ _ _ (λ z. omega arith) (λ z. must_least (at + 1) _ _ _ (λ z. omega arith)
        (λ y. let w = operands_least two at (get_or b (at + 1) 0) (at + 2) (leb-true (at + 2) (length b) z) in omega arith))
    tag_least unknown at l = omega arith

  pub node_least : (levels : ℕ) (stages : List ℕ) (own at : ℕ) → at ≤ length b → at ≤ looked (read_node plain levels stages own b at)
  unfolding extent read_node looked
  node_least zero stages own at l = omega arith
  node_least (suc levels) stages own at l =
      must_least at _ _ _ (λ z. omega arith)
      (λ z. let w = tag_least levels stages own (λ a h. node_least levels stages own a h) (tag_of (get_or b at 0)) at (leb-true (at + 1) (length b) z) in omega arith)

-- ---- alike: what is read of b is read of c, where they agree as far as was looked
abbrev pub Same : {A : Type 0} → (List ℕ → Read A) → List ℕ → List ℕ → Type 0
Same f b c = Agree (looked (f b)) b c → f b ≡ f c

module _ (b c : List ℕ) where
  -- a number of n bytes
  pub word_same : (n at : ℕ) → at + n ≤ length b → Agree (at + n) b c → whole (part b at n) ≡ whole (part c at n)
  unfolding whole part
  word_same zero at l a = refl
  word_same (suc n) at l a =
      let rest = word_same n (at + 1) (omega arith) (agree_less b c (at + 1 + n) (at + suc n) (omega arith) a) in
      omega (arith, whole_part b at n, whole_part c at n, a at (omega arith) (omega arith), rest)

  as_same : {A B : Type 0} (f : A → B) (x y : Read A) → (Agree (looked x) b c → x ≡ y) → Agree (looked (read_as f x)) b c → read_as f x ≡ read_as f y
  as_same f x y h a = ap (read_as f) (h (subst (λ (n : ℕ). Agree n b c) (looked_as f x) a))

  then_same : {A B : Type 0} (x y : Read A) (f g : A → ℕ → Read B) → (Agree (looked x) b c → x ≡ y) → ((a : A) (n : ℕ) → x ≡ found a n → n ≤ looked (f a n))
      → ((a : A) (n : ℕ) → x ≡ found a n → Agree (looked (f a n)) b c → f a n ≡ g a n) → Agree (looked (then_read x f)) b c → then_read x f ≡ then_read y g
  unfolding then_read looked
  then_same {A} x y f g h least next = go x refl
    where
      known : (z : Read A) → x ≡ z → Agree (looked z) b c → then_read z g ≡ then_read y g
      known z e m = ap (λ (w : Read A). then_read w g) (sym e ∙ h (subst (λ (w : Read A). Agree (looked w) b c) (sym e) m))

      go : (z : Read A) → x ≡ z → Agree (looked (then_read z f)) b c → then_read z f ≡ then_read y g
      go (found a n) e m = next a n e m ∙ known (found a n) e (agree_less b c n (looked (f a n)) (least a n e) m)
      go (refused k p) e m = known (refused k p) e m

module _ (b c : List ℕ) (len : length b ≡ length c) where
  -- so many bytes are there
  cut_same : {A : Type 0} (at n : ℕ) (x y : Read A) → (at + n ≤ length b → Agree (looked x) b c → x ≡ y)
      → Agree (looked (must (there b at n) (cut b) x)) b c → must (there b at n) (cut b) x ≡ must (there c at n) (cut c) y
  cut_same at n x y f =
      must_same (λ z. Unit) b c (there b at n) (there c at n) (cut b) (cut c) x y
      (λ g u a. (ap (leb (at + n)) (sym len) ∙ g, ap (refused 22) len))
      (λ g u a. (ap (leb (at + n)) (sym len) ∙ g, f (leb-true (at + n) (length b) g) a))
      tt

  byte_same : {A : Type 0} (n : ℕ) (g h : Bool) (k p : ℕ) (x y : Read A) → (Agree n b c → g ≡ h) → n ≤ p + extent k → (g ≡ true → n ≤ looked x)
      → (g ≡ true → Agree (looked x) b c → x ≡ y) → Agree (looked (must g (refused k p) x)) b c → must g (refused k p) x ≡ must h (refused k p) y
  byte_same n g h k p x y t l m f = test_same (λ z. Unit) b c n g h k p x y t l m (λ z u. f z) tt

  -- ---- components
  numbers_same : (n at : ℕ) → at + 8 * n ≤ length b → Agree (at + 8 * n) b c → numbers n b at ≡ numbers n c at
  unfolding numbers
  numbers_same zero at l a = refl
  numbers_same (suc n) at l a =
      let first = word_same b c 8 at (omega arith) (agree_less b c (at + 8) (at + 8 * suc n) (omega arith) a) in
      let rest = numbers_same n (at + 8) (omega arith) (agree_less b c (at + 8 + 8 * n) (at + 8 * suc n) (omega arith) a) in
      ap (λ (w : ℕ). w ∷ numbers n b (at + 8)) first ∙ ap {B = List ℕ} (λ (l : List ℕ). whole (part c at 8) ∷ l) rest

  proper_same : (ty n at : ℕ) → at + 8 * n ≤ length b → Agree (at + 8 * n) b c → all_proper ty n b at ≡ all_proper ty n c at
  unfolding all_proper
  proper_same ty n at l a = ap (every (proper_of ty)) (numbers_same n at l a)

  components_same : (ty n at : ℕ) → at + 8 * n ≤ length b → Agree (at + 8 * n) b c → components ty n b at ≡ components ty n c at
  unfolding components
  components_same ty n at l a = ap (map (kept_of ty)) (numbers_same n at l a)

  -- ---- a literal
  read_same : (ty cols rows n at : ℕ) → n ≤ 16 → Same (λ (s : List ℕ). read_components (record { ty = ty; cols = cols; rows = rows }) n s at) b c
  unfolding extent looked
  read_same ty cols rows n at few =
      cut_same (at + 4) (8 * n) _ _ (λ l.
      byte_same (at + 4 + 8 * n) _ _ 26 at _ _ (proper_same ty n (at + 4) l) (omega arith) (λ z. omega arith)
      (λ z a.
      ap (λ (k : List ℕ). found (record { ty = ty; cols = cols; rows = rows; comps = k ++ replicate (16 - n) 0 }) (at + 4 + 8 * n))
      (components_same ty n (at + 4) l a)))

  literal_same : (only : Bool) (at : ℕ) → Same (λ (s : List ℕ). read_literal plain only s at) b c
  unfolding extent read_literal
  literal_same only at =
      cut_same at 4 _ _ (λ l.
      byte_same (at + 4) _ _ 26 at _ _ (λ a. λ i. literal_ok plain only (heads l a i)) (omega arith) (λ z. components_least b at l)
      (λ z a.
      read_same (get_or b (at + 1) 0) (get_or b (at + 2) 0) (get_or b (at + 3) 0) (literal_count b at) at (literal_small plain only (literal_head b at) z) a
      ∙ moved l (agree_less b c (at + 4) _ (components_least b at l) a)))
    where
      heads : at + 4 ≤ length b → Agree (at + 4) b c → literal_head b at ≡ literal_head c at
      heads l a = rw (a (at + 1) (omega arith) (omega arith), a (at + 2) (omega arith) (omega arith), a (at + 3) (omega arith) (omega arith))

      counts : at + 4 ≤ length b → Agree (at + 4) b c → literal_count b at ≡ literal_count c at
      counts l a = rw (a (at + 2) (omega arith) (omega arith), a (at + 3) (omega arith) (omega arith))

      moved : at + 4 ≤ length b → Agree (at + 4) b c
          → read_components (literal_head b at) (literal_count b at) c at ≡ read_components (literal_head c at) (literal_count c at) c at
      moved l a = λ i. read_components (heads l a i) (counts l a i) c at

  -- the byte after a tag
  second : (at : ℕ) → at + 2 ≤ length b → Agree (at + 2) b c → get_or b (at + 1) 0 ≡ get_or c (at + 1) 0
  second at l a = a (at + 1) (omega arith) (omega arith)

  -- ---- a reference
  reference_same : (stages : List ℕ) (own at : ℕ) → Same (λ (s : List ℕ). read_reference stages own s at) b c
  unfolding extent read_reference looked
  reference_same stages own at =
      cut_same at 2 _ _ (λ l.
      byte_same (at + 2) _ _ 27 at _ _ (λ a. ap (λ (k : ℕ). ltb k (length stages)) (second at l a)) (omega arith)
      (λ z. must_least (at + 2) _ _ _ (λ y. omega arith) (λ y. omega arith))
      (λ z.
      byte_same (at + 2) _ _ 23 at _ _ (λ a. ap (λ (k : ℕ). leb (get_or stages k 0) own) (second at l a)) (omega arith) (λ y. omega arith)
      (λ y a. ap (λ (k : ℕ). found (reference k) (at + 2)) (second at l a))))

  -- ---- a node
  -- where nodes a level down are alike
  module _ (levels : ℕ) (stages : List ℕ) (own : ℕ) (below : (a : ℕ) → a ≤ length b → Same (λ (s : List ℕ). read_node plain levels stages own s a) b c) where
    operands_same : (two : Bool) (place op at : ℕ) → at ≤ length b → Same (λ (s : List ℕ). operands two place op (read_node plain levels stages own s) at) b c
    unfolding operands
    operands_same false place op at l = as_same b c (unary place op) _ _ (below at l)
    operands_same true place op at l =
        then_same b c _ _ _ _ (below at l)
        (λ u m e. omega (arith, node_least b levels stages own m (node_ends plain levels stages own b at u m e).1, looked_as (binary place op u) (read_node plain levels stages own b m)))
        (λ u m e. as_same b c (binary place op u) _ _ (below m (node_ends plain levels stages own b at u m e).1))

    tag_same : (g : Tag) (at : ℕ) → at + 1 ≤ length b → Same (λ (s : List ℕ). on_tag plain g (read_node plain levels stages own s) stages own s at) b c
    unfolding extent on_tag read_operator
    tag_same is_literal at l = as_same b c literal _ _ (literal_same false at)
    tag_same is_reference at l = reference_same stages own at
    tag_same (is_operator two) at l =
        cut_same at 2 _ _ (λ h.
        byte_same (at + 2) _ _ 25 at _ _ (λ a. ap (operator_known two) (second at h a)) (omega arith) (λ z. least h)
        (λ z a.
        operands_same two at (get_or b (at + 1) 0) (at + 2) h a
        ∙ ap (λ (op : ℕ). operands two at op (read_node plain levels stages own c) (at + 2)) (second at h (agree_less b c (at + 2) _ (least h) a))))
      where
        least : at + 2 ≤ length b → at + 2 ≤ looked (operands two at (get_or b (at + 1) 0) (read_node plain levels stages own b) (at + 2))
        least h = operands_least b levels stages own (λ k. node_least b levels stages own k) two at (get_or b (at + 1) 0) (at + 2) h
    tag_same unknown at l = λ a. refl

  node_same : (levels : ℕ) (stages : List ℕ) (own at : ℕ) → at ≤ length b → Same (λ (s : List ℕ). read_node plain levels stages own s at) b c
  unfolding read_node
  node_same zero stages own at l = λ a. refl
  node_same (suc levels) stages own at l =
      cut_same at 1 _ _ (λ h a.
      tag_same levels stages own (node_same levels stages own) (tag_of (get_or b at 0)) at h a
      ∙ ap (λ (x : ℕ). on_tag plain (tag_of x) (read_node plain levels stages own c) stages own c at)
      (a at (omega (arith, tag_least b levels stages own (λ k. node_least b levels stages own k) (tag_of (get_or b at 0)) at h)) (omega arith)))

  -- ---- a body
  setting_same : Same (read_setting plain) b c
  unfolding extent read_setting looked
  setting_same =
      cut_same 0 1 _ _ (λ l.
      byte_same 1 _ _ 25 0 _ _ (λ a. ap (λ (k : ℕ). eqb k 1) (a 0 (omega arith) (omega arith))) (omega arith)
      (λ z. omega (arith, literal_least b true 0 l, looked_as setting (read_literal plain true b 0)))
      (λ z. as_same b c setting _ _ (literal_same true 0)))

  kind_same : (k : Kind) (stages : List ℕ) (stage : ℕ) → Same (read_kind plain k stages stage) b c
  unfolding read_kind
  kind_same Setting stages stage = setting_same
  kind_same Expression stages stage = as_same b c (expression stage) _ _ (node_same 32 stages stage 0 (omega arith))

  -- what is left over is judged by the length
  pub body_same : (stages : List ℕ) (stage : ℕ) → Same (read_body plain stages stage) b c
  unfolding extent read_body looked
  body_same stages stage =
      then_same b c _ _ _ _ (kind_same (kind_of stage) stages stage)
      (λ e n q. must_least n (leb (length b) n) (refused No.Leftover n) (found e n) (λ z. omega arith) (λ z. omega arith))
      (λ e n q a. ap (λ (k : ℕ). must (leb k n) (refused No.Leftover n) (found e n)) len)
