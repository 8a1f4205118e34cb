-- What an entry means over the slots as they stand (01, The sheet: results).
use Rattle.std.specs.Prelude.{ℕ, List, eqb}
use Rattle.types.specs.Edition.{Edition}
use Rattle.value.specs.Pattern.{pick}
use Rattle.operand.specs.declared.Outcome.{Outcome}
use Rattle.operand.specs.Outcome.{value_of}
use Rattle.dispatch.specs.Meaning.{unary_meaning, binary_meaning}
use Rattle.slot.specs.Slot.{reference_to}
use Rattle.sheet.specs.Tree.{Expr, literal, reference, unary, binary, Entry, setting, expression}

-- an operand's refusal is the node's; else the operator answers
unfoldable pub on_one : ℕ → ℕ → Outcome → Outcome
on_one op stage x = pick (eqb x.status 0) (unary_meaning op stage x.value) x

-- both operands are worked out; a refusal, left operand first, is the node's
unfoldable pub on_two : ℕ → ℕ → Outcome → Outcome → Outcome
on_two op stage l r = pick (eqb l.status 0) (pick (eqb r.status 0) (binary_meaning op stage l.value r.value) r) l

-- an expression of a stage over the slots of a buffer, by the sheet's edition
unfoldable pub meaning : Edition → ℕ → List ℕ → Expr → Outcome
meaning e stage l (literal v) = value_of v
meaning e stage l (reference k) = reference_to e l k
meaning e stage l (unary place op t) = on_one op stage (meaning e stage l t)
meaning e stage l (binary place op x y) = on_two op stage (meaning e stage l x) (meaning e stage l y)

-- an entry: a setting from its body, another by its expression
unfoldable pub entry_meaning : Edition → List ℕ → Entry → Outcome
entry_meaning e l (setting v) = value_of v
entry_meaning e l (expression stage t) = meaning e stage l t
