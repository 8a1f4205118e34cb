-- After i turns the first bad word is that of the changes that are left.
use mathlib.Core.Path.{◌≡◌}
use Rattle.asked.specs.Asked.{asked_from, first_bad}
use Rattle.asked.proofs.Asking.{left}
use Rattle.asked.proofs.asked.first_bad.Given as goal

abbrev pub invariant-loop-i : goal.invariant-loop-i
invariant-loop-i l = first_bad (left l.line l.from l.n l.i) ≡ first_bad (asked_from l.n l.line l.from)
