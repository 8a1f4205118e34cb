-- What the crate `text` puts into a buffer of its own is shown.
use mathlib.Core.Path.{◌≡◌, ◌∙◌}
use Prim.Native.Nat.{◌≤◌}
use native.Mathlib.Omega.{arith}
use lib.ListN.{length, take, length-take}
use Rattle.command.specs.Listing.{page}
use Rattle.command.proofs.Shown.{added_as, page_text}
use Rattle.command.proofs.Paging.{page_done, page_refused}
use Rattle.command.proofs.show.Show.page.Goals as goal
use Rattle.command.proofs.show.Show.page.Goals.{in-Ok, in-Err}

pub returns : goal.returns
returns c =
    let m = c.match-answer in
    let made = elim m.branch as (λ _. (take m.n m.space ≡ page c.args.answer c.args.results.now) × (length (take m.n m.space) ≤ 65536)) [
      | in-Ok w ↦ rw (w.n-is, w.space-is) (page_text w.list-n.ensures.put ∙ page_done _ _ _ w.in-Ok.is, omega (arith, length-take w.list-n.result w.list-n.new.out, w.list-n.ensures.upper_bound))
      | in-Err w ↦ rw (w.n-is, w.space-is) (page_text w.refuse-n.ensures.put ∙ page_refused _ _ _ w.in-Err.is, omega (arith, length-take w.refuse-n.result w.refuse-n.new.out, w.refuse-n.ensures.upper_bound))
    ] in
    (added_as c.text.ensures made.0, omega (arith, c.text.ensures.shows.next, made.1))
