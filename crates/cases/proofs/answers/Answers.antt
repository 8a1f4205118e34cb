-- `cases::answers` meets its contract: a detail of four bytes is whole in a packed answer. Assumes nothing.
use mathlib.Core.Path.{◌≡◌}
use native.Mathlib.Omega.{arith}
use Prim.Native.Nat.{◌%◌}
use borrow.Author.Rules.{rules}
use Rattle.cases.proofs.answers.Goals as goal

pub returns : goal.returns
returns c =
    let e : c.word.result % 4294967296 ≡ c.word.result = omega arith in
    rw (← c.byte-number.ensures, ← c.word.ensures, e)
