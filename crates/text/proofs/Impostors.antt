-- Wrong programs that the contracts rule out, beside the edits of must-fail: at these results, numbers and marks the definitions that the
-- contracts cite give a text that the wrong program does not. Assumes nothing.
use mathlib.Core.Path.{◌≡◌, refl}
use mathlib.Core.Bool.{true, false}
use mathlib.Core.List.{List, ◌∷◌, ◌++◌}
use Prim.Native.Nat.{ℕ}
use lib.ListN.{length, replicate}
use Rattle.value.specs.Pattern.{kept_of}
use Rattle.low.specs.Bytes.{whole, part, numbers}
use Rattle.slot.specs.Slot.{said_by, slot, each, component_formed, components_formed, value_formed, blank, integer_formed, formed, well_formed}
use Rattle.text.specs.Text.{ascii, decimals, dec, hex, spaced, shown, line, lines, entries, listing, refusal_line, mover, movers, moved_line}

-- the results of one entry of status 0: its type, columns, rows and the low byte of its first component
abbrev results : ℕ → ℕ → ℕ → ℕ → List ℕ
results ty cols rows low = 0 ∷ ty ∷ cols ∷ rows ∷ replicate 4 0 ++ (low ∷ replicate 127 0)

-- list: a U32 5 has its fifteen zeros
pub zeros_listed : listing (results 4 1 1 5) ≡ ascii "sheet 1\n0 0 4 1 1 0 0000000000000005\n"
unfolding kept_of decimals dec hex spaced shown line lines entries listing whole part numbers said_by slot each component_formed components_formed value_formed blank
    formed well_formed
zeros_listed = refl

-- list: a Bool of 2 is not well formed, and no component of it is shown
pub unformed_hidden : listing (results 0 1 1 2) ≡ ascii "sheet 1\n0 0 0 1 1 0\n"
unfolding kept_of decimals dec hex spaced shown line lines entries listing whole part numbers said_by slot each component_formed components_formed value_formed blank
    formed well_formed
unformed_hidden = refl

-- list: the operand of a refused shift is shown
pub operand_listed : listing (9 ∷ 4 ∷ 1 ∷ 1 ∷ 32 ∷ replicate 3 0 ++ (1 ∷ replicate 127 0)) ≡ ascii "sheet 1\n0 9 4 1 1 32 0000000000000001\n"
unfolding kept_of decimals dec hex spaced shown line lines entries listing whole part numbers said_by slot each component_formed components_formed value_formed blank
    integer_formed formed well_formed
operand_listed = refl

-- list: a matrix of 4 by 4 has sixteen components, of 17 bytes each
pub sixteen_listed : length (listing (results 5 4 4 0)) ≡ 292
unfolding kept_of decimals dec hex spaced shown line lines entries listing whole part numbers said_by slot each component_formed components_formed value_formed blank
    formed well_formed
sixteen_listed = refl

-- refuse: the number is the one given
pub number_refused : refusal_line 9 ≡ ascii "refused 9\n"
unfolding decimals dec refusal_line
number_refused = refl

-- moved: two entries, where entries 0, 1 and 2 are marked and 0 is the setting
pub movers_named : moved_line 2 (true ∷ true ∷ true ∷ replicate 125 false) 0 ≡ ascii "moved 2 1 2\n"
unfolding decimals dec spaced mover movers moved_line
movers_named = refl
