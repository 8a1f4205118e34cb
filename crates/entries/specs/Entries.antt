-- The entries of a sheet by their numbers, what each names, and which are settings.
use Rattle.std.specs.Prelude.{ℕ, Bool, true, false, List, get_or, set, replicate}
use Rattle.operand.specs.declared.Instance.{Instance}
use Rattle.sheet.specs.Tree.{Entry, literal, setting, expression, names_of}
use Rattle.sheet.specs.Sheet.{Sheet}

-- entry k of a sheet; past the last one stands an expression that names nothing
unfoldable pub entry_at : Sheet → ℕ → Entry
entry_at sh k = get_or sh.entries k (expression 0 (literal record { ty = 0; cols = 0; rows = 0; comps = replicate 16 0 }))

-- the entries that each entry refers to
unfoldable pub refs_of : Sheet → ℕ → List ℕ
refs_of sh k = names_of (entry_at sh k)

-- a setting and its type are those of its body in the sheet
unfoldable pub is_setting : Entry → Bool
is_setting (setting v) = true
is_setting (expression stage t) = false

unfoldable pub setting_type : Entry → ℕ
setting_type (setting v) = v.ty
setting_type (expression stage t) = 0

-- the sheet with another value in setting i
abbrev pub with_setting : Sheet → ℕ → Instance → Sheet
with_setting sh i v = record { edition = sh.edition; entries = set sh.entries i (setting v); begins = sh.begins }
