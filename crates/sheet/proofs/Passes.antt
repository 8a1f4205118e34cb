-- Laws of the pass over a body's nodes in prefix order, which finds the entries that it names.
use mathlib.Core.Path.{◌≡◌, refl, sym, ap, ◌∙◌}
use mathlib.Core.Bool.{Bool, true, false, ◌||◌}
use mathlib.Core.List.{List, [], ◌∷◌, ◌++◌, append_assoc, append-nil}
use Prim.Native.Nat.{ℕ, ◌+◌, ◌-◌, ◌<◌, ◌≤◌}
use native.Mathlib.Omega.{arith}
use lib.Dec.{eqb}
use lib.ListN.{length, get_or}
use Rattle.low.specs.Read.{found}
use Rattle.types.specs.Edition.{Edition}
use Rattle.value.specs.Pattern.{pick}
use Rattle.sheet.specs.Tree.{Expr, literal, reference, unary, binary, names}
use Rattle.sheet.specs.Node.{literal_end, read_node, any_marked}
use Rattle.sheet.specs.Accepted.{Fills, Filled, TreeMarked}
use Rattle.sheet.proofs.Inverse.{node_ends, Stands, a_literal, a_reference, a_unary, a_binary, stands}

-- trees that stand one after another, from a place up to the end, where the entries before count as these stages
pub data InRow (ed : Edition) (stages : List ℕ) (own : ℕ) (b : List ℕ) : ℕ → List Expr → Type 0 where
  done : InRow ed stages own b (length b) []
  more : {at : ℕ} {ts : List Expr} (levels : ℕ) (t : Expr) (m : ℕ) → read_node ed levels stages own b at ≡ found t m → InRow ed stages own b m ts → InRow ed stages own b at (t ∷ ts)

-- the entries that they name
abbrev pub names_all : List Expr → List ℕ
names_all [] = []
names_all (t ∷ ts) = names t ++ names_all ts

-- ---- where the pass stands: x is whether any entry named from here to the end is marked
pub record Passing (ed : Edition) (stages : List ℕ) (own : ℕ) (b : List ℕ) (marks : List Bool) (at : ℕ) (x : Bool) : Type 0 where
  pub rest : List Expr
  pub row : InRow ed stages own b at rest
  pub same : x ≡ any_marked marks (names_all rest)

-- the first tree that stands there, and those after it
record First (ed : Edition) (stages : List ℕ) (own : ℕ) (b : List ℕ) (marks : List Bool) (at : ℕ) (x : Bool) : Type 0 where
  levels : ℕ
  tree : Expr
  next : ℕ
  after : List Expr
  read : read_node ed levels stages own b at ≡ found tree next
  row : InRow ed stages own b next after
  same : x ≡ any_marked marks (names tree ++ names_all after)

abbrev hit_at : List ℕ → List Bool → ℕ → Bool
hit_at b marks at = pick (eqb (get_or b at 0) 2) (get_or marks (get_or b (at + 1) 0) false) false

abbrev next_at : List ℕ → ℕ → ℕ
next_at b at = pick (eqb (get_or b at 0) 1) (literal_end b at) (at + 2)

module _ (ed : Edition) (stages : List ℕ) (own : ℕ) (b : List ℕ) (marks : List Bool) where
  row_ends : {at : ℕ} {ts : List Expr} → InRow ed stages own b at ts → at ≤ length b
  row_ends done = omega arith
  row_ends {at} (more levels t m e r) = omega (arith, row_ends r, (node_ends ed levels stages own b at t m e).0)

  pub passing_start : (t : Expr) → read_node ed 32 stages own b 0 ≡ found t (length b) → Passing ed stages own b marks 0 (any_marked marks (names t))
  passing_start t e = record { rest = t ∷ []; row = more 32 t (length b) e done; same = ap (any_marked marks) (sym (append-nil (names t))) }

  first : {at : ℕ} {ts : List Expr} (x : Bool) → InRow ed stages own b at ts → at < length b → x ≡ any_marked marks (names_all ts) → First ed stages own b marks at x
  first x done l s = absurd (omega arith)
  first x (more {ts = ts} levels t m e r) l s = record { levels = levels; tree = t; next = m; after = ts; read = e; row = r; same = s }

  pub passing_end : (at : ℕ) (x : Bool) → Passing ed stages own b marks at x → length b ≤ at → x ≡ false
  unfolding any_marked
  passing_end at x p l = go p.row l p.same
    where
      go : {at : ℕ} {ts : List Expr} → InRow ed stages own b at ts → length b ≤ at → x ≡ any_marked marks (names_all ts) → x ≡ false
      go done h s = s
      go {at} (more levels t m e r) h s = absurd (omega (arith, row_ends r, (node_ends ed levels stages own b at t m e).0))

  module _ (at : ℕ) (x : Bool) (p : Passing ed stages own b marks at x) (l : at < length b) where
    here : First ed stages own b marks at x
    here = first x p.row l p.same

    node : Stands ed here.levels stages own b at here.tree here.next
    node = stands ed here.levels stages own b at here.tree here.next here.read

    pub bytes_there : at + 1 < length b
    bytes_there = go node
      where
        go : Stands ed here.levels stages own b at here.tree here.next → at + 1 < length b
        go (a_literal q v e w) = omega (arith, w.head)
        go (a_reference q h k e n) = h
        go (a_unary q h t r e) = h
        go (a_binary q h t m u r s e) = h

    pub literal_whole : get_or b at 0 ≡ 1 → literal_end b at ≤ length b
    literal_whole f = go node
      where
        go : Stands ed here.levels stages own b at here.tree here.next → literal_end b at ≤ length b
        go (a_literal q v e w) = w.whole
        go (a_reference q h k e n) = absurd (omega (arith, sym f ∙ q))
        go (a_unary q h t r e) = absurd (omega (arith, sym f ∙ q))
        go (a_binary q h t m u r s e) = absurd (omega (arith, sym f ∙ q))

    pub named_small : length stages ≤ 128 → get_or b at 0 ≡ 2 → get_or b (at + 1) 0 < 128
    named_small few f = go node
      where
        go : Stands ed here.levels stages own b at here.tree here.next → get_or b (at + 1) 0 < 128
        go (a_literal q v e w) = absurd (omega (arith, sym f ∙ q))
        go (a_reference q h k e n) = omega (arith, k, few)
        go (a_unary q h t r e) = absurd (omega (arith, sym f ∙ q))
        go (a_binary q h t m u r s e) = absurd (omega (arith, sym f ∙ q))

    -- a node that is no reference hits nothing
    no_hit : (k : ℕ) → get_or b at 0 ≡ k → eqb k 2 ≡ false → hit_at b marks at ≡ false
    no_hit k q f = ap (λ (j : ℕ). pick (eqb j 2) (get_or marks (get_or b (at + 1) 0) false) false) q ∙ ap (λ (g : Bool). pick g (get_or marks (get_or b (at + 1) 0) false) false) f

    named_hit : get_or b at 0 ≡ 2 → hit_at b marks at ≡ get_or marks (get_or b (at + 1) 0) false
    named_hit q = ap (λ (j : ℕ). pick (eqb j 2) (get_or marks (get_or b (at + 1) 0) false) false) q

    of_names : (t : Expr) → here.tree ≡ t → x ≡ any_marked marks (names t ++ names_all here.after)
    of_names t e = here.same ∙ ap (λ (u : Expr). any_marked marks (names u ++ names_all here.after)) e

    pub hit_true : (g : Bool) → g ≡ hit_at b marks at → g ≡ true → true ≡ x
    unfolding names any_marked
    hit_true g i h = go node
      where
        clash : hit_at b marks at ≡ false → true ≡ x
        clash f = absurd (let z : ◌≡◌ {A = Bool} true false = sym h ∙ i ∙ f in let y : ◌≡◌ {A = ℕ} 0 1 = cc in omega arith)

        go : Stands ed here.levels stages own b at here.tree here.next → true ≡ x
        go (a_literal q v e w) = clash (no_hit 1 q refl)
        go (a_reference q k j e n) = sym (of_names (reference (get_or b (at + 1) 0)) e ∙ ap (λ (y : Bool). y || any_marked marks (names_all here.after)) (sym (named_hit q) ∙ sym i ∙ h))
        go (a_unary q k t r e) = clash (no_hit 3 q refl)
        go (a_binary q k t m u r s e) = clash (no_hit 4 q refl)

    module _ (g : Bool) (i : g ≡ hit_at b marks at) (h : g ≡ false) (to : ℕ) (j : to ≡ next_at b at) where
      past_two : (k : ℕ) → get_or b at 0 ≡ k → eqb k 1 ≡ false → to ≡ at + 2
      past_two k q f = j ∙ ap (λ (c : ℕ). pick (eqb c 1) (literal_end b at) (at + 2)) q ∙ ap (λ (d : Bool). pick d (literal_end b at) (at + 2)) f

      past_literal : get_or b at 0 ≡ 1 → to ≡ literal_end b at
      past_literal q = j ∙ ap (λ (c : ℕ). pick (eqb c 1) (literal_end b at) (at + 2)) q

      at_place : (k : ℕ) (ts : List Expr) → to ≡ k → InRow ed stages own b k ts → x ≡ any_marked marks (names_all ts) → Passing ed stages own b marks to x
      at_place k ts e r s = record { rest = ts; row = rw e r; same = s }

      pub passing_on : Passing ed stages own b marks to x
      unfolding names any_marked
      passing_on = go node
        where
          go : Stands ed here.levels stages own b at here.tree here.next → Passing ed stages own b marks to x
          go (a_literal q v e w) = at_place here.next here.after (past_literal q ∙ sym w.next) here.row (of_names (literal v) e)
          go (a_reference q k c e n) =
              at_place here.next here.after (past_two 2 q refl ∙ sym n) here.row
              (of_names (reference (get_or b (at + 1) 0)) e ∙ ap (λ (y : Bool). y || any_marked marks (names_all here.after)) (sym (named_hit q) ∙ sym i ∙ h))
          go (a_unary q k t r e) = at_place (at + 2) (t ∷ here.after) (past_two 3 q refl) (more (here.levels - 1) t here.next r here.row) (of_names (unary at (get_or b (at + 1) 0) t) e)
          go (a_binary q k t m u r s e) =
              at_place (at + 2) (t ∷ u ∷ here.after) (past_two 4 q refl)
              (more (here.levels - 1) t m r (more (here.levels - 1) u here.next s here.row))
              (of_names (binary at (get_or b (at + 1) 0) t u) e ∙ ap (any_marked marks) (append_assoc (names t) (names u) (names_all here.after)))

      pub passing_later : at < to
      passing_later = go node
        where
          go : Stands ed here.levels stages own b at here.tree here.next → at < to
          go (a_literal q v e w) = omega (arith, past_literal q)
          go (a_reference q k c e n) = omega (arith, past_two 2 q refl)
          go (a_unary q k t r e) = omega (arith, past_two 3 q refl)
          go (a_binary q k t m u r s e) = omega (arith, past_two 4 q refl)

-- ---- the same for whichever expression fills the body
unfoldable pub PassingAll : Edition → List ℕ → List Bool → ℕ → Type 0
PassingAll ed b marks at = (t : Expr) (f : Fills ed b t) → Passing ed f.stages f.own b marks at (any_marked marks (names t))

module _ (ed : Edition) (b : List ℕ) (marks : List Bool) where
  pub all_start : PassingAll ed b marks 0
  unfolding PassingAll
  all_start = λ t f. passing_start ed f.stages f.own b marks t f.read

  pub all_end : (at : ℕ) → PassingAll ed b marks at → length b ≤ at → TreeMarked ed b marks false
  unfolding PassingAll TreeMarked
  all_end at p l = λ t f. sym (passing_end ed f.stages f.own b marks at _ (p t f) l)

  -- y is some expression that does
  module _ (at : ℕ) (p : PassingAll ed b marks at) (l : at < length b) (y : Filled ed b) where
    its : Passing ed y.fills.stages y.fills.own b marks at (any_marked marks (names y.tree))
    unfolding PassingAll
    its = p y.tree y.fills

    pub all_there : at + 1 < length b
    all_there = bytes_there ed _ _ b marks at _ its l

    pub all_whole : get_or b at 0 ≡ 1 → literal_end b at ≤ length b
    all_whole = literal_whole ed _ _ b marks at _ its l

    pub all_small : get_or b at 0 ≡ 2 → get_or b (at + 1) 0 < 128
    all_small = named_small ed _ _ b marks at _ its l y.fills.few

    module _ (g : Bool) (i : g ≡ hit_at b marks at) where
      pub all_hit : g ≡ true → TreeMarked ed b marks true
      unfolding PassingAll TreeMarked
      all_hit h = λ t f. hit_true ed f.stages f.own b marks at _ (p t f) l g i h

      module _ (h : g ≡ false) (to : ℕ) (j : to ≡ next_at b at) where
        pub all_on : PassingAll ed b marks to
        unfolding PassingAll
        all_on = λ t f. passing_on ed f.stages f.own b marks at _ (p t f) l g i h to j

        pub all_later : at < to
        all_later = passing_later ed _ _ b marks at _ its l g i h to j
