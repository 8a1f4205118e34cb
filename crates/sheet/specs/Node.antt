-- One node of a body and the checks of it, in their order. Places are counted from the body's first byte.
use Rattle.std.specs.Prelude.{ℕ, zero, suc, ◌+◌, ◌*◌, ◌-◌, List, [], ◌∷◌, ◌++◌, map, Bool, true, false, ◌&&◌, ◌||◌, not, length, get_or, replicate, ltb, leb, eqb}
use Rattle.types.specs.Types.{concrete_of}
use Rattle.low.specs.Bytes.{numbers}
use Rattle.low.specs.Read.{Read, found, refused, must, then_read, read_as, there}
use Rattle.types.specs.Edition.{Edition}
use Rattle.value.specs.Pattern.{pick, proper_of, kept_of}
use Rattle.value.specs.Refusals as No
use Rattle.operand.specs.declared.Instance.{Instance}
use Rattle.operand.specs.Operand.{shape_in, every}
use Rattle.sheet.specs.declared.Literal.{Literal}
use Rattle.sheet.specs.declared.literals.LiteralHead.{LiteralHead}
use Rattle.sheet.specs.Tree.{Expr, literal, reference, unary, binary}

-- CutShort: its place is the first missing byte, the one past the end
abbrev pub cut : {A : Type 0} → List ℕ → Read A
cut b = refused No.CutShort (length b)

-- n components from a place on, 8 bytes each, are patterns of the type
unfoldable pub all_proper : ℕ → ℕ → List ℕ → ℕ → Bool
all_proper ty n b at = every (proper_of ty) (numbers n b at)

-- n components from a place on; a NaN read is kept as its type's one NaN
unfoldable pub components : ℕ → ℕ → List ℕ → ℕ → List ℕ
components ty n b at = map (kept_of ty) (numbers n b at)

-- a literal's type, columns and rows, and how many components it has
abbrev pub literal_head : List ℕ → ℕ → LiteralHead
literal_head b at = record { ty = get_or b (at + 1) 0; cols = get_or b (at + 2) 0; rows = get_or b (at + 3) 0 }

abbrev pub literal_count : List ℕ → ℕ → ℕ
literal_count b at = get_or b (at + 2) 0 * get_or b (at + 3) 0

-- the place after them
abbrev pub literal_end : List ℕ → ℕ → ℕ
literal_end b at = at + 4 + 8 * literal_count b at

-- the value of a literal: its n components, unused ones 0
abbrev pub value_at : ℕ → ℕ → ℕ → ℕ → List ℕ → ℕ → Instance
value_at ty cols rows n b at = record { ty = ty; cols = cols; rows = rows; comps = components ty n b at ++ replicate (16 - n) 0 }

-- a literal's type, one of the edition's, and shape; a setting's is a scalar of type 0, 3, 4, 5 or 6: a concrete one
abbrev pub literal_ok : Edition → Bool → LiteralHead → Bool
literal_ok e setting h = shape_in e h.ty h.cols h.rows && (not setting || (concrete_of h.ty && eqb h.cols 1 && eqb h.rows 1))

-- the n components of a literal, after its head: all there, and patterns of its type
abbrev pub read_components : LiteralHead → ℕ → List ℕ → ℕ → Read Instance
read_components h n b at =
    must (there b (at + 4) (8 * n)) (cut b)
    (must (all_proper h.ty n b (at + 4)) (refused No.BadValue at)
    (found (value_at h.ty h.cols h.rows n b (at + 4)) (at + 4 + 8 * n)))

-- 01, type, columns, rows, components: type and shape are judged before the components are looked for
unfoldable pub read_literal : Edition → Bool → List ℕ → ℕ → Read Instance
read_literal e setting b at =
    must (there b at 4) (cut b)
    (must (literal_ok e setting (literal_head b at)) (refused No.BadValue at)
    (read_components (literal_head b at) (literal_count b at) b at))

-- 02, number of an earlier entry, whose stage is not above this one's
unfoldable pub read_reference : List ℕ → ℕ → List ℕ → ℕ → Read Expr
read_reference stages own b at =
    must (there b at 2) (cut b)
    (must (ltb (get_or b (at + 1) 0) (length stages)) (refused No.BadRef at)
    (must (leb (get_or stages (get_or b (at + 1) 0) 0) own) (refused No.BadStage at)
    (found (reference (get_or b (at + 1) 0)) (at + 2))))

-- operators 1 to 3 stand before one operand, 1 to 18 before two
abbrev pub operator_known : Bool → ℕ → Bool
operator_known two op = leb 1 op && (leb op 3 || (two && leb op 18))

-- the operands of an operator node, left before right; below reads a node
unfoldable pub operands : Bool → ℕ → ℕ → (ℕ → Read Expr) → ℕ → Read Expr
operands false place op below at = read_as (unary place op) (below at)
operands true place op below at = then_read (below at) (λ l m. read_as (binary place op l) (below m))

-- 03 or 04, operator, one or two nodes
unfoldable pub read_operator : Bool → (ℕ → Read Expr) → List ℕ → ℕ → Read Expr
read_operator two below b at =
    must (there b at 2) (cut b)
    (must (operator_known two (get_or b (at + 1) 0)) (refused No.BadNode at)
    (operands two at (get_or b (at + 1) 0) below (at + 2)))

-- what a node's tag byte says that it is
pub data Tag : Type 0 where
  is_literal : Tag
  is_reference : Tag
  is_operator : Bool → Tag
  unknown : Tag

unfoldable pub tag_of : ℕ → Tag
tag_of t = pick (eqb t 1) is_literal (pick (eqb t 2) is_reference (pick (eqb t 3) (is_operator false) (pick (eqb t 4) (is_operator true) unknown)))

unfoldable pub on_tag : Edition → Tag → (ℕ → Read Expr) → List ℕ → ℕ → List ℕ → ℕ → Read Expr
on_tag e is_literal below stages own b at = read_as literal (read_literal e false b at)
on_tag e is_reference below stages own b at = read_reference stages own b at
on_tag e (is_operator two) below stages own b at = read_operator two below b at
on_tag e unknown below stages own b at = refused No.BadNode at

-- one node of a sheet of this edition, where so many levels are left: depth, tag byte there, tag known, and what its tag asks
unfoldable pub read_node : Edition → ℕ → List ℕ → ℕ → List ℕ → ℕ → Read Expr
read_node e zero stages own b at = refused No.TooDeep at
read_node e (suc levels) stages own b at =
    must (there b at 1) (cut b)
    (on_tag e (tag_of (get_or b at 0)) (read_node e levels stages own b) stages own b at)

-- the literal at a place and the place after it; zeros where none can be read
unfoldable pub literal_in : Read Instance → Literal
literal_in (found v n) = record { value = v; next = n }
literal_in (refused k p) = record { value = record { ty = 0; cols = 0; rows = 0; comps = replicate 16 0 }; next = 0 }

-- whether one of some entries is marked
unfoldable pub any_marked : List Bool → List ℕ → Bool
any_marked marks [] = false
any_marked marks (k ∷ ks) = get_or marks k false || any_marked marks ks
