-- `operand::components_ok` meets its contract. Assumes nothing.
use mathlib.Core.Path.{◌≡◌, refl}
use native.Mathlib.Omega.{arith}
use lib.ListN.{get_or}
use Rattle.value.proofs.Widths.{up_to_most}
use Rattle.operand.specs.Operand.{every}
use Rattle.low.specs.Bytes.{up_to}
use Rattle.operand.proofs.Every.{every_more}
use Rattle.operand.proofs.components_ok.Goals as goal

pub loop-i-init : goal.loop-i-init
unfolding up_to every
loop-i-init c = refl

pub loop-i-preserved : goal.loop-i-preserved
loop-i-preserved c =
    let a = c.args in
    let p = up_to_most a.ty (get_or a.xs.now c.loop-i.i 0) c.most-most.ensures c.known-known.ensures in
    every_more _ _ _ _ _ c.loop-i.invariant p

pub returns : goal.returns
returns c =
    let e : c.loop-i.i ≡ c.args.n = omega arith in
    rw e at c.loop-i.invariant
