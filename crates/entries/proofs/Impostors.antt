-- Wrong programs that the contracts exclude: 01's example, at which the definitions ask for another answer than such a program gives. Assumes nothing.
use mathlib.Core.Path.{◌≡◌, refl}
use mathlib.Core.Bool.{true, false}
use mathlib.Core.List.{List, [], ◌∷◌, map}
use Prim.Native.Nat.{ℕ}
use lib.ListN.{get_or}
use Rattle.low.specs.Bytes.{whole, part, up_to}
use Rattle.low.specs.Read.{must}
use Rattle.sheet.specs.Stage.{kind_of}
use Rattle.sheet.specs.Record.{read_head}
use Rattle.sheet.specs.Sheet.{read_sheet}
use Rattle.sheet.proofs.Example.{bytes, example}
use Rattle.std.specs.Prelude.{Some, None}
use Rattle.entries.specs.Depend.{any, chain, depends, touched, tally}
use Rattle.entries.specs.Records.{begins_in, span_in, span_of, place_after, setting_in, setting_of}

-- the records begin neither after the first head nor at the end
pub begins_at : begins_in (read_sheet bytes) ≡ 0
unfolding begins_in
begins_at = rw example

-- a record does not end where its body starts, and neither stage nor length is another's
pub second_record : span_of bytes 17 ≡ record { stage = 1; start = 22; len = 16; next = 38 }
unfolding must whole part read_head span_in
second_record = refl

-- the places of records are not as far apart as the first two
pub third_place : map (place_after bytes 0) (0 ∷ 1 ∷ 2 ∷ 3 ∷ []) ≡ 0 ∷ 17 ∷ 38 ∷ 59 ∷ []
unfolding must whole part read_head span_in place_after
third_place = refl

-- a setting's type is not its tag, and an expression is no setting
pub settings : map (setting_of bytes) (0 ∷ 17 ∷ []) ≡ Some 4 ∷ None ∷ []
unfolding must whole part read_head span_in kind_of setting_in
settings = refl

-- an entry that refers by a chain depends, and is counted
abbrev refs : ℕ → List ℕ
refs k = get_or ([] ∷ (0 ∷ []) ∷ (1 ∷ []) ∷ []) k []

pub chained : (up_to (touched refs 0) 4 ≡ true ∷ true ∷ true ∷ false ∷ []) × (tally (depends refs 0) 4 ≡ 2)
unfolding any chain tally up_to
chained = (refl, refl)
