-- The components in use are put, of which there are no more than sixteen.
use mathlib.Core.Path.{◌≡◌}
use native.Mathlib.Omega.{arith}
use lib.ListN.{length, take}
use lib.Seq.{length-take-le}
use Prim.Native.Nat.{◌*◌}
use Rattle.text.proofs.Lists.{take_min}
use borrow.Author.Rules.{rules}
use Rattle.text.proofs.put.Text.components.Goals as goal

pub returns : goal.returns
returns c =
    let v = c.args.v in
    let l : length v.comps ≡ 16 = search rules in
    let few : take c.used.result v.comps ≡ take (v.cols * v.rows) v.comps = rw c.used.ensures.0 (take_min v.comps (v.cols * v.rows) 16 l) in
    (rw few at c.row.ensures.0, omega (arith, length-take-le c.used.result v.comps (omega arith)))
