-- The text where it fits, and else as much of a line that says so as fits.
use mathlib.Core.Path.{◌≡◌, sym}
use mathlib.Core.List.{List}
use Prim.Native.Nat.{ℕ, ◌≤◌}
use native.Mathlib.Omega.{arith}
use borrow.Author.Rules.{rules}
use lib.ListN.{length}
use Rattle.text.specs.Text.{Put}
use Rattle.command.specs.Listing.{printed, listing_of}
use Rattle.command.proofs.Judging.{printed_text, printed_short}
use Rattle.command.proofs.listing.Goals as goal

pub returns-then-room-measured-clause-put : goal.returns-then-room-measured-clause-put
returns-then-room-measured-clause-put c =
    let s = c.args in
    let put = printed_short c.complain.ensures.shows c.whole.ensures.shows c.if-room-measured.true c.min.result c.min.ensures in
    let as_put : (m : List ℕ) → m ≡ c.complain.new.self.out.now → Put s.out.now m 0 c.min.result (printed (length s.out.now) (listing_of s.line.now s.readable s.bytes.now)) =
    λ m e. rw e put in
    search (rules, as_put, sym c.complain.ensures.same)

pub returns-clause-put : goal.returns-clause-put
returns-clause-put c =
    let s = c.args in
    let q = c.whole-2.new.self in
    let fits : q.at ≤ length s.out.now = omega (arith, c.whole.ensures.shows.next, c.whole-2.ensures.shows.next) in
    let put = printed_text c.whole-2.ensures.shows fits in
    let as_put : (m : List ℕ) → m ≡ q.out.now → Put s.out.now m 0 q.at (printed (length s.out.now) (listing_of s.line.now s.readable s.bytes.now)) =
    λ m e. rw e put in
    search (rules, as_put, sym c.whole-2.ensures.same)
