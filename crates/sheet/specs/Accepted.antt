-- What is asked of a body that was accepted once and is gone through again, and what is told of it. Only calls between layers cite it.
use Rattle.std.specs.Prelude.{ℕ, ◌≤◌, ◌≡◌, Bool, false, List, length}
use Rattle.low.specs.Read.{found}
use Rattle.types.specs.Edition.{Edition}
use Rattle.operand.specs.declared.Instance.{Instance}
use Rattle.sheet.specs.Tree.{Expr, Entry, names, names_of}
use Rattle.sheet.specs.Node.{read_literal, read_node, any_marked}
use Rattle.sheet.specs.Record.{read_body}

-- ---- a node
-- this tree stands at this place of a body and ends there
pub record Parsed (e : Edition) (b : List ℕ) (at : ℕ) (t : Expr) (next : ℕ) : Type 0 where
  pub levels : ℕ
  pub stages : List ℕ
  pub own : ℕ
  pub read : read_node e levels stages own b at ≡ found t next

-- some tree stands there
pub record NodeAt (e : Edition) (b : List ℕ) (at : ℕ) : Type 0 where
  pub tree : Expr
  pub next : ℕ
  pub parsed : Parsed e b at tree next

-- a literal stands there
pub record LiteralAt (e : Edition) (b : List ℕ) (at : ℕ) : Type 0 where
  pub value : Instance
  pub next : ℕ
  pub read : read_literal e false b at ≡ found value next

-- ---- a body
-- b is the body of this entry, whose stage byte this is; at most 128 entries stand before it
pub record Body (e : Edition) (stage : ℕ) (b : List ℕ) (x : Entry) : Type 0 where
  pub stages : List ℕ
  pub few : length stages ≤ 128
  pub end : ℕ
  pub read : read_body e stages stage b ≡ found x end

-- it is some entry's
pub record Bodied (e : Edition) (stage : ℕ) (b : List ℕ) : Type 0 where
  pub entry : Entry
  pub body : Body e stage b entry

-- whichever entry's it is: whether that entry names a marked one
unfoldable pub NamesMarked : Edition → ℕ → List ℕ → List Bool → Bool → Type 0
NamesMarked e stage b marks r = (x : Entry) → Body e stage b x → r ≡ any_marked marks (names_of x)

-- one expression fills a body
pub record Fills (e : Edition) (b : List ℕ) (t : Expr) : Type 0 where
  pub stages : List ℕ
  pub few : length stages ≤ 128
  pub own : ℕ
  pub read : read_node e 32 stages own b 0 ≡ found t (length b)

pub record Filled (e : Edition) (b : List ℕ) : Type 0 where
  pub tree : Expr
  pub fills : Fills e b tree

-- whichever it is: whether it names a marked entry
unfoldable pub TreeMarked : Edition → List ℕ → List Bool → Bool → Type 0
TreeMarked e b marks r = (t : Expr) → Fills e b t → r ≡ any_marked marks (names t)
