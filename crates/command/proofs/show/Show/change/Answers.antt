-- What moved, and then the page of the change's answer.
use Prim.Native.Nat.{◌+◌, ◌≤◌}
use native.Mathlib.Omega.{arith}
use Rattle.command.specs.Inside.{Adds}
use Rattle.command.specs.Listing.{moved_page}
use Rattle.command.proofs.Shown.{after, added_as, nothing_added}
use Rattle.command.proofs.Paging.{moved_quiet, moved_asked, change_shown, change_after}
use Rattle.command.proofs.show.Show.change.Goals as goal
use Rattle.command.proofs.show.Show.change.Goals.{then-verbose, else-verbose}

pub returns : goal.returns
returns c =
    let s = c.args in
    let marked = c.change_marking-answer in
    let p = s.self.now in
    let q = c.if-verbose.self in
    let moved = elim c.if-verbose.branch as (λ _. Adds p q (moved_page s.verbose marked.result marked.new.marks s.change.entry) × (q.at ≤ p.at + 65536)) [
      | then-verbose w ↦ rw w.self-is (added_as w.moved.ensures.0 (moved_asked s.verbose _ _ _ w.if-verbose.true), w.moved.ensures.1)
      | else-verbose w ↦ rw w.self-is (added_as (nothing_added p) (moved_quiet s.verbose _ _ _ w.if-verbose.false), omega arith)
    ] in (
      added_as (after moved.0 c.page.ensures.0)
          (change_shown s.verbose _ _ s.change _ marked.ensures.1 _ _ marked.ensures.0 marked.ensures.2),
      change_after s.verbose _ _ s.change _ marked.ensures.1,
      omega (arith, moved.1, c.page.ensures.1),
    )
