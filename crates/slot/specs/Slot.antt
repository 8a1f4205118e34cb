-- Results (01, The sheet): 136 bytes an entry, what they say, and which of them are well formed.
use Rattle.std.specs.Prelude.{List, [], ◌∷◌, ◌++◌, Bool, true, ◌&&◌, ◌||◌, ℕ, zero, suc, ◌*◌, ◌/◌, eqb, leb, ltb, length, get_or}
use Rattle.types.specs.Types.{integer_of}
use Rattle.types.specs.Edition.{Edition}
use Rattle.value.specs.Answer.{carries}
use Rattle.value.specs.Pattern.{pick, proper_of, kept_of}
use Rattle.value.specs.Refusals as No
use Rattle.operand.specs.declared.Instance.{Instance}
use Rattle.operand.specs.declared.Outcome.{Outcome}
use Rattle.operand.specs.Operand.{shape_in}
use Rattle.operand.specs.Outcome.{refused_with}
use Rattle.low.specs.Bytes.{lows, whole, part, patch, eights, numbers}

-- status, type, columns, rows, detail in 4 bytes low first, 16 components
unfoldable pub bytes_of : Outcome → List ℕ
bytes_of o = o.status ∷ o.value.ty ∷ o.value.cols ∷ o.value.rows ∷ lows 4 o.detail ++ eights 16 o.value.comps

-- what a slot's bytes say
unfoldable pub said_by : List ℕ → Outcome
said_by b =
    record {
      status = get_or b 0 0;
      detail = whole (part b 4 4);
      value = record { ty = get_or b 1 0; cols = get_or b 2 0; rows = get_or b 3 0; comps = numbers 16 b 8 };
    }

-- slot k of a buffer; past its last whole slot there is none
unfoldable pub slot : List ℕ → ℕ → List ℕ
slot l k = pick (ltb k (length l / 136)) (part l (136 * k) 136) []

-- the buffer with other bytes in slot k; past its last whole slot nothing is put
unfoldable pub put : List ℕ → ℕ → List ℕ → List ℕ
put l k b = pick (ltb k (length l / 136)) (patch l (136 * k) b) l

-- each number below n passes
unfoldable pub each : (ℕ → Bool) → ℕ → Bool
each p zero = true
each p (suc n) = each p n && p n

-- of the components, the first n are in use: proper components (NaN only as kept, unused 0)
unfoldable pub component_formed : ℕ → ℕ → List ℕ → ℕ → Bool
component_formed ty n xs i = pick (ltb i n) (proper_of ty (get_or xs i 0) && eqb (kept_of ty (get_or xs i 0)) (get_or xs i 0)) (eqb (get_or xs i 0) 0)

unfoldable pub components_formed : ℕ → ℕ → List ℕ → Bool
components_formed ty n xs = each (component_formed ty n xs) 16

-- a type of the sheet's edition and a shape as in Operands, and its components
unfoldable pub value_formed : Edition → Instance → Bool
value_formed e v = shape_in e v.ty v.cols v.rows && components_formed v.ty (v.cols * v.rows) v.comps

-- a refused entry has type, columns, rows and components 0
unfoldable pub blank : Instance → Bool
blank v = eqb v.ty 0 && eqb v.cols 0 && eqb v.rows 0 && components_formed 0 0 v.comps

-- 02 §5: the operand that 9 and 10 keep, a scalar of an integer type with proper bits
unfoldable pub integer_formed : Edition → Instance → Bool
integer_formed e v = integer_of v.ty && eqb v.cols 1 && eqb v.rows 1 && value_formed e v

-- what may stand beside a refusal: that for 9 and 10, and zeros for every other
abbrev pub beside_formed : Edition → ℕ → Instance → Bool
beside_formed e n v = pick (carries n) (integer_formed e v) (blank v)

-- detail 0, but any for 9 and 10 and below 128 for 11
abbrev pub detail_formed : ℕ → ℕ → Bool
detail_formed n d = eqb d 0 || carries n || (eqb n No.FromEntry && ltb d 128)

-- status 0, detail 0 and such a value; or status 1 to 11 with such a detail and what may stand beside it
unfoldable pub formed : Edition → Outcome → Bool
formed e o =
    (eqb o.status 0 && eqb o.detail 0 && value_formed e o.value)
    || (leb No.Unary o.status && leb o.status No.FromEntry && detail_formed o.status o.detail && beside_formed e o.status o.value)

-- a slot of a sheet of this edition is well formed
unfoldable pub well_formed : Edition → List ℕ → Bool
well_formed e b = formed e (said_by b)

-- a reference to a slot whose status is not 0, or that is not well formed, refuses with FromEntry
unfoldable pub reference_to : Edition → List ℕ → ℕ → Outcome
reference_to e l k = pick (eqb (said_by (slot l k)).status 0 && well_formed e (slot l k)) (said_by (slot l k)) (refused_with No.FromEntry k)
