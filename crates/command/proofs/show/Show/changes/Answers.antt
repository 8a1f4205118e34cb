-- After i turns the pages of the first i changes are shown.
use mathlib.Core.Path.{refl, ◌∙◌}
use native.Mathlib.Omega.{arith}
use Rattle.sheet.specs.Sheet.{read_sheet}
use Rattle.command.proofs.Paging.{going_start, going_more, going_end}
use Rattle.command.proofs.show.Show.changes.Goals as goal

pub loop-i-init : goal.loop-i-init
loop-i-init c =
    let s = c.args in
    (refl, omega arith, going_start s.verbose (read_sheet s.sheet.now) s.line.now s.from s.n s.self.now s.results.now)

pub change_in-requires : goal.change_in-requires
change_in-requires c = (omega arith, omega arith)

pub loop-i-preserved : goal.loop-i-preserved
loop-i-preserved c =
    let s = c.args in
    let e = c.change_in.ensures in
    let more = going_more s.verbose (read_sheet s.sheet.now) s.line.now s.from s.n s.self.now _ _ _ c.loop-i.i c.loop-i.invariant.2 _ _ (omega arith) e.0 e.1 in
    (c.change_in.auto.results ∙ c.loop-i.invariant.0, omega (arith, e.2), more)

pub returns : goal.returns
returns c =
    let s = c.args in
    going_end s.verbose (read_sheet s.sheet.now) s.line.now s.from s.n s.self.now _ _ _ c.loop-i.i c.loop-i.invariant.2 (omega arith)
