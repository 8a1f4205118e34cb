-- Fresh evaluation: every slot of a buffer, in order.
use Rattle.std.specs.Prelude.{ℕ, zero, suc, ◌*◌, Bool, true, List, eqb, length, Result, Ok}
use Rattle.low.specs.declared.Refused.{Refused}
use Rattle.low.specs.Read.{Read, found, refused, must, refusal}
use Rattle.value.specs.Pattern.{pick}
use Rattle.value.specs.Refusals as No
use Rattle.slot.specs.Slot.{bytes_of, put}
use Rattle.sheet.specs.Sheet.{Sheet}
use Rattle.entries.specs.Entries.{entry_at}
use Rattle.work.specs.Meaning.{entry_meaning}

-- what the slot of each entry is to hold, over a buffer
abbrev pub Means : Type 0
Means = ℕ → List ℕ → List ℕ

unfoldable pub means_of : Sheet → Means
means_of sh k l = bytes_of (entry_meaning sh.edition l (entry_at sh k))

-- a buffer after those of the first n entries that are chosen are worked out in rising order, each over the slots as they then stand
unfoldable pub evaluated : Means → (ℕ → Bool) → ℕ → List ℕ → List ℕ
evaluated m chosen zero l = l
evaluated m chosen (suc k) l = pick (chosen k) (put (evaluated m chosen k l) k (m k (evaluated m chosen k l))) (evaluated m chosen k l)

-- fresh evaluation fills all slots, settings from their bodies
unfoldable pub fresh : Sheet → List ℕ → List ℕ
fresh sh l = evaluated (means_of sh) (λ k. true) (length sh.entries) l

-- ResultsSize exactly if not 136 times the entries
abbrev pub sized : Sheet → ℕ → Bool
sized sh size = eqb size (136 * length sh.entries)

-- what fresh evaluation answers: the sheet's own refusals, ResultsSize, or the number of entries
unfoldable pub fresh_answer : Read Sheet → List ℕ → Result ℕ Refused
fresh_answer (found sh n) l = must (sized sh (length l)) (refusal No.ResultsSize 0) (Ok (length sh.entries))
fresh_answer (refused k p) l = refusal k p

-- the buffer afterwards; a refusal changes no byte
unfoldable pub fresh_bytes : Read Sheet → List ℕ → List ℕ
fresh_bytes (found sh n) l = must (sized sh (length l)) l (fresh sh l)
fresh_bytes (refused k p) l = l
