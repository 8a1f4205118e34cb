-- An answer loses nothing by being packed: from what each exported function answers, its number and its detail are read back.
use Prim.Native.Nat.{ℕ, ◌<◌}
use mathlib.Core.Path.{◌≡◌}
use mathlib.Core.Bool.{Bool, true, false}
use mathlib.Core.List.{List}
use native.Mathlib.Omega.{arith}
use lib.Dec.{eqb}
use lib.ListN.{length}
use Rattle.std.specs.Prelude.{Result, Ok, Err}
use Rattle.low.specs.declared.Refused.{Refused}
use Rattle.low.specs.Read.{Read, found, refused, must, refusal}
use Rattle.value.specs.Pattern.{pick}
use Rattle.operand.specs.declared.Instance.{Instance}
use Rattle.operand.specs.declared.Outcome.{Outcome}
use Rattle.dispatch.specs.Meaning.{unary_meaning, binary_meaning}
use Rattle.dispatch.proofs.Outcomes.{binary_outcomes, unary_outcomes}
use Rattle.sheet.specs.Sheet.{Sheet, read_sheet, counted_of}
use Rattle.entries.specs.Entries.{refs_of}
use Rattle.entries.specs.Depend.{depends, tally}
use Rattle.entries.proofs.Chains.{tally_small}
use Rattle.fold.specs.Fresh.{sized, fresh_answer}
use Rattle.fold.specs.Change.{fault_of, change_answer}
use Rattle.booth.specs.Answer.{packed_answer, packed_fold, number_in, detail_in}
use Rattle.booth.specs.Marks.{other_size, marks_answer}
use Rattle.booth.specs.Operand.{into_slot, direct_answer}
use Rattle.booth.proofs.Bounds.{SheetWithin, sheet_within, fault_small, Small, outcome_small, into_small}

-- the number and the detail that are read from an answer
abbrev pub Says : ℕ → ℕ → ℕ → Type 0
Says answer n d = (number_in answer ≡ n) × (detail_in answer ≡ d)

pub unpacked : (n d : ℕ) → n < 256 → d < 4294967296 → Says (packed_answer n d) n d
unpacked n d h k = (omega (arith, h, k), omega (arith, h, k))

-- ---- calls on a sheet
abbrev pub Unpacks : Result ℕ Refused → Type 0
Unpacks (Ok n) = Says (packed_fold (Ok n)) 0 n
Unpacks (Err r) = Says (packed_fold (Err r)) r.number r.place

done : (n : ℕ) → n < 4294967296 → Unpacks (Ok n)
done n h = unpacked 0 n (omega arith) h

pub check_unpacked : (s : List ℕ) → Unpacks (counted_of (read_sheet s))
check_unpacked s = go (read_sheet s) (sheet_within s)
  where
    go : (q : Read Sheet) → SheetWithin 16384 q → Unpacks (counted_of q)
    go (found sh n) h = done (length sh.entries) (omega (arith, h))
    go (refused k p) h = unpacked k p (omega (arith, h.0)) (omega (arith, h.1))

fresh_small : (l : List ℕ) (q : Read Sheet) → SheetWithin 16384 q → Unpacks (fresh_answer q l)
unfolding fresh_answer must
fresh_small l (found sh n) h = go (sized sh (length l))
  where
    go : (t : Bool) → Unpacks (must t (refusal 30 0) (Ok (length sh.entries)))
    go true = done (length sh.entries) (omega (arith, h))
    go false = unpacked 30 0 (omega arith) (omega arith)
fresh_small l (refused k p) h = unpacked k p (omega (arith, h.0)) (omega (arith, h.1))

pub fresh_unpacked : (s l : List ℕ) → Unpacks (fresh_answer (read_sheet s) l)
fresh_unpacked s l = fresh_small l (read_sheet s) (sheet_within s)

change_small : (l : List ℕ) (i ty bits : ℕ) (q : Read Sheet) → SheetWithin 16384 q → Unpacks (change_answer q l i ty bits)
unfolding change_answer
change_small l i ty bits (found sh n) h = go (eqb (fault_of sh (length l) i ty bits) 0)
  where
    go : (t : Bool) → Unpacks (pick t (Ok (tally (depends (refs_of sh) i) (length sh.entries))) (refusal (fault_of sh (length l) i ty bits) 0))
    go true = done (tally (depends (refs_of sh) i) (length sh.entries)) (omega (arith, h, tally_small (depends (refs_of sh) i) (length sh.entries)))
    go false = unpacked (fault_of sh (length l) i ty bits) 0 (omega (arith, fault_small sh (length l) i ty bits)) (omega arith)
change_small l i ty bits (refused k p) h = unpacked k p (omega (arith, h.0)) (omega (arith, h.1))

pub change_unpacked : (s l : List ℕ) (i ty bits : ℕ) → Unpacks (change_answer (read_sheet s) l i ty bits)
change_unpacked s l i ty bits = change_small l i ty bits (read_sheet s) (sheet_within s)

size_small : (q : Read Sheet) → SheetWithin 16384 q → Unpacks (other_size q)
unfolding other_size
size_small (found sh n) h = unpacked 30 0 (omega arith) (omega arith)
size_small (refused k p) h = unpacked k p (omega (arith, h.0)) (omega (arith, h.1))

pub marks_unpacked : (s l : List ℕ) (i ty bits : ℕ) (m : List ℕ) → Unpacks (marks_answer (read_sheet s) l i ty bits m)
unfolding marks_answer
marks_unpacked s l i ty bits m = go (eqb (length m) 128)
  where
    go : (t : Bool) → Unpacks (pick t (change_answer (read_sheet s) l i ty bits) (other_size (read_sheet s)))
    go true = change_unpacked s l i ty bits
    go false = size_small (read_sheet s) (sheet_within s)

-- ---- direct calls
module _ (slot : List ℕ) where
  direct_unpacked : (o : Outcome) → Small o → Says (direct_answer slot o) (into_slot slot o).status (into_slot slot o).detail
  unfolding direct_answer
  direct_unpacked o h = let k = into_small slot o h in unpacked (into_slot slot o).status (into_slot slot o).detail k.0 k.1

  pub unary_unpacked : (op stage : ℕ) (v : Instance)
      → Says (direct_answer slot (unary_meaning op stage v)) (into_slot slot (unary_meaning op stage v)).status (into_slot slot (unary_meaning op stage v)).detail
  unary_unpacked op stage v = direct_unpacked (unary_meaning op stage v) (outcome_small (unary_meaning op stage v) (unary_outcomes op stage v))

  pub binary_unpacked : (op stage : ℕ) (l r : Instance)
      → Says (direct_answer slot (binary_meaning op stage l r)) (into_slot slot (binary_meaning op stage l r)).status (into_slot slot (binary_meaning op stage l r)).detail
  binary_unpacked op stage l r = direct_unpacked (binary_meaning op stage l r) (outcome_small (binary_meaning op stage l r) (binary_outcomes op stage l r))
