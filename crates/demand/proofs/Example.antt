-- The example of 59 bytes: its setting's content changed to 32, in its bytes, and what the demand says of it. Assumes nothing.
use mathlib.Core.Path.{◌≡◌, refl, ap}
use mathlib.Core.List.{◌∷◌, ◌++◌}
use lib.ListN.{take, drop}
use Rattle.value.specs.Pattern.{kept_of}
use Rattle.operand.specs.Operand.{a_scalar}
use Rattle.low.specs.Bytes.{lows, patch}
use Rattle.low.specs.Read.{Read}
use Rattle.types.specs.Edition.{plain}
use Rattle.sheet.specs.Sheet.{Sheet, sheet_of}
use Rattle.entries.specs.Entries.{entry_at}
use Rattle.sheet.proofs.Example.{bytes, example}
use Rattle.writer.specs.Write.{write_sheet, content_place}
use Rattle.writer.proofs.Impostors.{entries}
use Rattle.demand.specs.Demand.{Content, amended_as, amended}

-- 32 is proper content of entry 0
pub example_content : Content (sheet_of plain 0 entries) 0 4 32
unfolding entry_at
example_content = record { value = a_scalar 4 5; setting = refl; type = refl; proper = refl }

-- in its bytes 5 gives way to 32, and nothing else
pub example_amended : amended bytes 0 32 ≡ take 9 bytes ++ 32 ∷ drop 10 bytes
unfolding amended_as content_place write_sheet patch lows kept_of
example_amended = ap (λ (x : Read Sheet). amended_as x bytes 0 32) example
