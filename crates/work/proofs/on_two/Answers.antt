-- A refused operand ends the node, the left one first; else the operator answers.
use Rattle.std.proofs.Common.{◌≡◌, ◌∙◌, false, nat_eq, rules}
use Rattle.work.specs.Meaning.{on_two}
use Rattle.work.proofs.Trees.{left_ends, right_ends}
use Rattle.work.proofs.on_two.Goals as goal

pub returns-in_default : goal.returns-in_default
returns-in_default c =
    let a = c.args in
    let e : nat_eq a.l.status 0 ≡ false = search rules in
    left_ends a.op a.stage a.l a.r e

pub returns-in_default-status : goal.returns-in_default-status
returns-in_default-status c =
    let a = c.args in
    let e : nat_eq a.r.status 0 ≡ false = search rules in
    right_ends a.op a.stage a.l a.r (search rules) e

pub returns : goal.returns
unfolding on_two
returns c = c.binary.ensures ∙ rw (c.in-0.is, c.in-0-status.is)
