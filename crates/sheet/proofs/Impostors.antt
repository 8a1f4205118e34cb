-- Wrong programs that the contracts exclude: bytes at which the definitions ask for another answer than such a program gives. Assumes nothing.
use mathlib.Core.Path.{◌≡◌, refl, sym}
use mathlib.Core.Bool.{true, false}
use mathlib.Core.List.{List, [], ◌∷◌, ◌++◌, map}
use Prim.Native.Nat.{ℕ, zero, suc}
use native.Mathlib.Omega.{arith}
use lib.ListN.{length, replicate}
use Rattle.value.specs.Pattern.{kept_of}
use Rattle.std.specs.Prelude.{Result, Ok}
use Rattle.low.specs.declared.Refused.{Refused}
use Rattle.low.specs.Bytes.{whole, part, numbers}
use Rattle.low.specs.Read.{must, then_read, read_as, placed_from, refusal}
use Rattle.types.specs.Edition.{plain}
use Rattle.operand.specs.Operand.{every}
use Rattle.sheet.specs.Tree.{reference, binary, setting, entry_stage, names, names_of}
use Rattle.sheet.specs.declared.Kind.TheVariants.{Setting, Expression}
use Rattle.sheet.specs.Stage.{kind_of, counts_as}
use Rattle.sheet.specs.Node.{all_proper, components, read_literal, read_reference, operands, read_operator, tag_of, on_tag, read_node, literal_in, any_marked}
use Rattle.sheet.specs.Record.{headed, read_head, read_setting, read_kind, read_body, read_record}
use Rattle.sheet.specs.Sheet.{read_records, read_from, read_sheet, counted_of}
use Rattle.sheet.proofs.Sheets.{sheet_long}
use Rattle.sheet.proofs.Example.{bytes, u32}

-- a record with this stage byte and body, the U32 1 as a node, and n nodes of `~` over it
abbrev record_of : ℕ → List ℕ → List ℕ
record_of stage b = 213 ∷ 23 ∷ stage ∷ length b ∷ 0 ∷ b

abbrev one : List ℕ
one = 1 ∷ 4 ∷ 1 ∷ 1 ∷ 1 ∷ replicate 7 0

unfoldable pub nested : ℕ → List ℕ
nested zero = one
nested (suc n) = 3 ∷ 3 ∷ nested n

-- a sheet of one entry and n that refer to it
unfoldable pub referring : ℕ → List ℕ
referring zero = record_of 0 one
referring (suc n) = referring n ++ record_of 0 (2 ∷ 0 ∷ [])

abbrev Answers : List (List ℕ) → List (Result ℕ Refused) → Type 0
Answers sheets answers = map (λ (s : List ℕ). counted_of (read_sheet s)) sheets ≡ answers

-- good sheets: neither is every sheet refused, nor is there one answer, nor is a depth of 32 too deep
pub check_accepts : Answers ([] ∷ bytes ∷ record_of 0 (nested 31) ∷ []) (Ok 0 ∷ Ok 3 ∷ Ok 1 ∷ [])
unfolding every whole part numbers must then_read read_as placed_from all_proper components read_literal read_reference operands read_operator tag_of on_tag read_node
    kind_of read_head read_setting read_kind read_body read_record read_records read_from read_sheet entry_stage nested
check_accepts = refl

-- a depth of 33, an entry that names itself, a setting named in Const, a byte left over, a binary operator's code before one operand,
-- an empty setting, an AbstractInt as a setting, and a second record of another mark are refused, each at its place
pub check_refuses : Answers (
    record_of 0 (nested 32)
    ∷ record_of 0 (2 ∷ 0 ∷ [])
    ∷ (record_of 3 one ++ record_of 0 (2 ∷ 0 ∷ []))
    ∷ record_of 0 (one ++ 0 ∷ [])
    ∷ record_of 0 (3 ∷ 4 ∷ one)
    ∷ record_of 3 []
    ∷ record_of 3 (1 ∷ 1 ∷ 1 ∷ 1 ∷ replicate 8 0)
    ∷ (record_of 0 one ++ 213 ∷ 24 ∷ 0 ∷ 0 ∷ 0 ∷ [])
    ∷ [])
    (refusal 28 69 ∷ refusal 27 5 ∷ refusal 23 22 ∷ refusal 29 17 ∷ refusal 25 5 ∷ refusal 22 5 ∷ refusal 26 5 ∷ refusal 21 17 ∷ [])
unfolding every whole part numbers must then_read read_as placed_from all_proper components read_literal read_reference operands read_operator tag_of on_tag read_node
    kind_of read_head read_setting read_kind read_body read_record read_records read_from read_sheet entry_stage nested
check_refuses = refl

-- 128 entries are taken, 129 are not
pub check_counts : Answers (referring 127 ∷ referring 128 ∷ []) (Ok 128 ∷ refusal 24 906 ∷ [])
unfolding every whole part numbers must then_read read_as placed_from all_proper components read_literal read_reference operands read_operator tag_of on_tag read_node
    kind_of read_head read_setting read_kind read_body read_record read_records read_from read_sheet entry_stage referring
check_counts = refl

-- a byte more than 16,384 is too long, whatever the bytes are
pub too_long_by_one : (s : List ℕ) → length s ≡ 16385 → counted_of (read_sheet s) ≡ refusal 20 0
too_long_by_one s e = sym (sheet_long s (omega arith))

-- another mark, and stage byte 4, whose place is its own; a record in the middle of a sheet
pub heads : map (λ (s : List ℕ). read_head s 1) ((0 ∷ 213 ∷ 24 ∷ 0 ∷ 0 ∷ 0 ∷ []) ∷ (0 ∷ record_of 4 []) ∷ (0 ∷ record_of 2 (7 ∷ 8 ∷ [])) ∷ [])
    ≡ refusal 21 1 ∷ refusal 23 3 ∷ headed 2 6 2 ∷ []
unfolding every numbers whole part must read_head
heads = refl

-- a body is neither the sheet's first bytes nor empty where the sheet ends with it
pub last_body : part (1 ∷ 2 ∷ 3 ∷ []) 1 2 ≡ 2 ∷ 3 ∷ []
unfolding part
last_body = refl

-- of a matrix neither component 0 alone is read nor the first column alone
pub all_components :
    (literal_in (read_literal plain false (1 ∷ 5 ∷ 2 ∷ 2 ∷ 1 ∷ replicate 7 0 ++ 2 ∷ replicate 7 0 ++ 3 ∷ replicate 7 0 ++ 4 ∷ replicate 7 0) 0)).value.comps
    ≡ 1 ∷ 2 ∷ 3 ∷ 4 ∷ replicate 12 0
unfolding every numbers whole part must all_proper components read_literal literal_in kept_of
all_components = refl

-- not only the first name is looked at, and an expression without a name has none that is marked
pub names_found : any_marked (false ∷ true ∷ replicate 126 false) (names (binary 0 3 (reference 0) (reference 1))) ≡ true
unfolding names any_marked
names_found = refl

pub none_named : any_marked (replicate 128 true) (names_of (setting (u32 1))) ≡ false
unfolding names_of any_marked
none_named = refl

-- a setting is no expression and counts as 1, an expression as its stage byte
pub kinds : map kind_of (0 ∷ 2 ∷ 3 ∷ []) ≡ Expression ∷ Expression ∷ Setting ∷ []
unfolding kind_of
kinds = refl

pub counted : (counts_as Setting 3 ≡ 1) × (counts_as Expression 2 ≡ 2)
unfolding counts_as
counted = (refl, refl)
