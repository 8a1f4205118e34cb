-- An expression as a tree, an entry, and the entries that they name.
use Rattle.std.specs.Prelude.{ℕ, List, [], ◌∷◌, ◌++◌}
use Rattle.operand.specs.declared.Instance.{Instance}

-- an operator node has its place in the body, its operator and its operands
pub data Expr : Type 0 where
  literal : Instance → Expr
  reference : ℕ → Expr
  unary : ℕ → ℕ → Expr → Expr
  binary : ℕ → ℕ → Expr → Expr → Expr

-- an entry: a setting with its value, or an expression in its stage
pub data Entry : Type 0 where
  setting : Instance → Entry
  expression : ℕ → Expr → Entry

-- the stage that an entry counts as: a setting as 1
unfoldable pub entry_stage : Entry → ℕ
entry_stage (setting v) = 1
entry_stage (expression stage t) = stage

-- the entries that an expression refers to, from left to right
unfoldable pub names : Expr → List ℕ
names (literal v) = []
names (reference k) = k ∷ []
names (unary place op t) = names t
names (binary place op l r) = names l ++ names r

-- the entries that an entry refers to: a setting to none
unfoldable pub names_of : Entry → List ℕ
names_of (setting v) = []
names_of (expression stage t) = names t
