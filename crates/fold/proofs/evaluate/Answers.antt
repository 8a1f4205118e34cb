-- The answer and the buffer of fresh evaluation, from the check of the sheet, the size and the loop that works.
use Rattle.std.proofs.Common.{◌≡◌, rules}
use Rattle.std.specs.Prelude.{Err}
use Rattle.fold.proofs.Answers.{fresh_bad, fresh_size, accepted, fresh_done}
use Rattle.fold.proofs.Steps.{all_placed}
use Rattle.fold.proofs.evaluate.Goals as goal

pub returns-in_err-n : goal.returns-in_err-n
returns-in_err-n c =
    let e : c.from_residual.result ≡ Err c.in_err-n.field-0.0 = search rules in
    rw e (fresh_bad _ _ c.check.ensures _ c.in_err-n.was _)

pub returns-then-not-sized : goal.returns-then-not-sized
returns-then-not-sized c =
    rw c.refused.ensures (fresh_size _ _ c.check.ensures _ c.in_ok-n.was _ _ c.sized.ensures c.if-not-sized.true)

pub work_marked-requires : goal.work_marked-requires
work_marked-requires c = all_placed _ _ _ (accepted _ _ c.check.ensures _ c.in_ok-n.was) c.begin.ensures

pub returns : goal.returns
returns c =
    fresh_done _ _ c.check.ensures _ c.in_ok-n.was _ _ c.sized.ensures c.if-not-sized.false _ c.work_marked.ensures
