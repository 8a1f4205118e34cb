-- The page of the fresh results, and then those of the changes.
use mathlib.Core.Path.{refl}
use Prim.Native.Nat.{◌*◌, ◌≤◌}
use native.Mathlib.Omega.{arith}
use Rattle.command.proofs.Shown.{after, added_as}
use Rattle.command.proofs.Paging.{zeros_blank, pages_shown}
use Rattle.command.proofs.show.Show.pages.Goals as goal

pub returns : goal.returns
returns c =
    let entries = c.entries-size in
    let few : 136 * entries.result ≤ 17408 = omega (arith, entries.ensures.1) in
    let unfilled = zeros_blank _ entries.result (136 * entries.result) 17408 entries.ensures.0 refl few in
    added_as (after c.page.ensures.0 c.changes.ensures)
    (pages_shown c.args.verbose _ _ _ _ _ unfilled c.evaluate-answer.ensures.0 c.evaluate-answer.ensures.1)
