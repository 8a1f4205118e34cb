-- What an accepted body holds, for whoever goes from record to record: its entry, and the entries that it names.
use mathlib.Core.Path.{◌≡◌, refl, sym, ap, ◌∙◌}
use mathlib.Core.Bool.{Bool, true, false}
use mathlib.Core.List.{List}
use Prim.Native.Nat.{ℕ}
use native.Mathlib.Omega.{arith}
use lib.ListN.{length}
use Rattle.low.specs.Read.{found}
use Rattle.low.proofs.Reading.{must_found, must_is, as_found}
use Rattle.types.specs.Edition.{Edition}
use Rattle.operand.specs.declared.Instance.{Instance}
use Rattle.sheet.specs.declared.Kind.{Kind}
use Rattle.sheet.specs.declared.Kind.TheVariants.{Setting, Expression}
use Rattle.sheet.specs.Tree.{Expr, Entry, setting, expression, names_of}
use Rattle.sheet.specs.Stage.{kind_of}
use Rattle.sheet.specs.Node.{literal_head, read_literal, read_node, literal_in, any_marked}
use Rattle.sheet.specs.Record.{read_setting, read_kind, read_body}
use Rattle.sheet.specs.Accepted.{LiteralAt, Body, Bodied, NamesMarked, Fills, Filled, TreeMarked}
use Rattle.sheet.proofs.Components.{setting_ok}
use Rattle.sheet.proofs.Records.{body_end, body_read_lem}

-- ---- what an accepted body holds, by its entry's kind
pub data BodyHolds (ed : Edition) (stages : List ℕ) (stage : ℕ) (b : List ℕ) (x : Entry) : Type 0 where
  a_setting : kind_of stage ≡ Setting → (v : Instance) → x ≡ setting v → read_literal ed true b 0 ≡ found v (length b) → read_literal ed false b 0 ≡ found v (length b)
      → BodyHolds ed stages stage b x
  an_expression : kind_of stage ≡ Expression → (t : Expr) → x ≡ expression stage t → read_node ed 32 stages stage b 0 ≡ found t (length b) → BodyHolds ed stages stage b x

-- no kind is two
pub unlike : (k : Kind) → k ≡ Setting → k ≡ Expression → ⊥
unlike k p q = let y : Setting ≡ Expression = sym p ∙ q in let z : ◌≡◌ {A = ℕ} 0 1 = cc in omega arith

module _ (ed : Edition) where
  -- a setting's literal is a literal
  setting_is : (b : List ℕ) (at : ℕ) (v : Instance) (n : ℕ) → read_literal ed true b at ≡ found v n → read_literal ed false b at ≡ found v n
  unfolding read_literal
  setting_is b at v n e =
      let a = must_found _ _ _ _ v n e in
      let c = must_found _ _ _ _ v n a.1 in
      must_is _ _ _ _ (found v n) a.0 (must_is _ _ _ _ (found v n) (setting_ok ed (literal_head b at) c.0) c.1)

  pub body_holds : (stages : List ℕ) (stage : ℕ) (b : List ℕ) (x : Entry) (n : ℕ) → read_body ed stages stage b ≡ found x n → BodyHolds ed stages stage b x
  unfolding read_kind read_setting
  body_holds stages stage b x n h = go (kind_of stage) refl ((body_read_lem ed stages stage b x n h).0 ∙ ap (found x) ends)
    where
      ends : n ≡ length b
      ends = omega (arith, (body_read_lem ed stages stage b x n h).1, (body_end ed stages stage b x n h).1)

      go : (k : Kind) → kind_of stage ≡ k → read_kind ed k stages stage b ≡ found x (length b) → BodyHolds ed stages stage b x
      go Setting i w =
          let a = must_found _ _ _ _ x (length b) w in
          let c = must_found _ _ _ _ x (length b) a.1 in
          let d = as_found setting (read_literal ed true b 0) x (length b) c.1 in
          a_setting i d.0 d.2 d.1 (setting_is b 0 d.0 (length b) d.1)
      go Expression i w =
          let d = as_found (expression stage) (read_node ed 32 stages stage b 0) x (length b) w in
          an_expression i d.0 d.2 d.1

  -- the value of a literal that was accepted is what the code that loads it gives
  pub literal_value_lem : (b : List ℕ) (at : ℕ) (v : Instance) (n : ℕ) → read_literal ed false b at ≡ found v n
      → literal_in (read_literal ed false b at) ≡ record { value = v; next = n }
  unfolding literal_in
  literal_value_lem b at v n e = ap literal_in e

  pub holds : {stage : ℕ} {b : List ℕ} {x : Entry} (y : Body ed stage b x) → BodyHolds ed y.stages stage b x
  holds {stage} {b} {x} y = body_holds y.stages stage b x y.end y.read

  -- ---- as the code goes by the kind k of an accepted body
  module _ (stage : ℕ) (b : List ℕ) (k : Kind) (e : k ≡ kind_of stage) where
    -- a setting's is a literal
    pub setting_literal : k ≡ Setting → Bodied ed stage b → LiteralAt ed b 0
    setting_literal q y = go (holds y.body)
      where
        go : {stages : List ℕ} → BodyHolds ed stages stage b y.entry → LiteralAt ed b 0
        go (a_setting s v x f g) = record { value = v; next = length b; read = g }
        go (an_expression s t x f) = absurd (unlike (kind_of stage) (sym e ∙ q) s)

    -- another's is an expression that fills it
    pub expression_fills : k ≡ Expression → (x : Entry) → Body ed stage b x → (t : Expr) × (x ≡ expression stage t) × Fills ed b t
    expression_fills q x y = go (holds y)
      where
        go : BodyHolds ed y.stages stage b x → (t : Expr) × (x ≡ expression stage t) × Fills ed b t
        go (a_setting s v z f g) = absurd (unlike (kind_of stage) s (sym e ∙ q))
        go (an_expression s t z f) = (t, z, record { stages = y.stages; few = y.few; own = stage; read = f })

    pub expression_filled : k ≡ Expression → Bodied ed stage b → Filled ed b
    expression_filled q y = let w = expression_fills q y.entry y.body in record { tree = w.0; fills = w.2 }

    -- which entries it names
    pub setting_names : k ≡ Setting → (marks : List Bool) → NamesMarked ed stage b marks false
    unfolding NamesMarked names_of any_marked
    setting_names q marks = λ x y. go x (holds y)
      where
        go : {stages : List ℕ} (x : Entry) → BodyHolds ed stages stage b x → false ≡ any_marked marks (names_of x)
        go x (a_setting s v z f g) = sym (ap (λ (u : Entry). any_marked marks (names_of u)) z)
        go x (an_expression s t z f) = absurd (unlike (kind_of stage) (sym e ∙ q) s)

    pub expression_names : k ≡ Expression → (marks : List Bool) (r : Bool) → TreeMarked ed b marks r → NamesMarked ed stage b marks r
    unfolding NamesMarked TreeMarked names_of
    expression_names q marks r h = λ x y. let w = expression_fills q x y in h w.0 w.2 ∙ sym (ap (λ (u : Entry). any_marked marks (names_of u)) w.1)
