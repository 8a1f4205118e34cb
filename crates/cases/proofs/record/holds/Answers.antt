-- `cases::record::holds` meets its contract. Assumes nothing.
use mathlib.Core.Path.{refl}
use lib.ListN.{replicate}
use Rattle.cases.proofs.Records.{same_slot}
use borrow.Author.Rules.{rules}
use Rattle.cases.proofs.record.holds.Goals as goal

pub returns : goal.returns
returns c =
    same_slot _ (replicate 136 0) _ c.outcome.result _ _ refl c.put.ensures c.outcome.ensures c.same.ensures
