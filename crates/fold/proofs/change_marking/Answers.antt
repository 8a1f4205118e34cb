-- The answer, the buffer and the marks of a change, from the check of the sheet, the checks of the change and the change itself.
use Rattle.std.proofs.Common.{◌≡◌, rules}
use Rattle.std.specs.Prelude.{Err}
use Rattle.fold.proofs.Answers.{change_bad, change_fault, ready, change_done}
use Rattle.fold.proofs.change_marking.Goals as goal

pub returns-in_err-n : goal.returns-in_err-n
returns-in_err-n c =
    let e : c.from_residual.result ≡ Err c.in_err-n.field-0.0 = search rules in
    rw e (change_bad _ _ c.check.ensures _ c.in_err-n.was _ _ _ _ _)

pub returns-in_err-at : goal.returns-in_err-at
returns-in_err-at c =
    let e : c.from_residual-in_err-at.result ≡ Err c.in_err-at.field-0.0 = search rules in
    rw e (change_fault _ _ c.check.ensures _ c.in_ok-n.was _ _ _ _ _ c.judge.ensures _ c.in_err-at.was _)

pub apply-requires : goal.apply-requires
apply-requires c =
    ready _ _ c.check.ensures _ c.in_ok-n.was c.args.results.now _ _ _ _ c.judge.ensures _ c.in_ok-at.was

pub returns : goal.returns
returns c =
    change_done _ _ c.check.ensures _ c.in_ok-n.was _ _ _ _ _ c.judge.ensures _ c.in_ok-at.was _ _ _ _ c.apply.ensures
