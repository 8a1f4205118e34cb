-- `booth::wgsl_unary` meets its contract: a scalar is the operand in its bytes.
use Rattle.booth.proofs.Operands.{scalar_found_lem}
use Rattle.booth.proofs.wgsl_unary.Goals as goal

pub returns-in_default : goal.returns-in_default
returns-in_default c = rw (← c.operand.ensures, ← c.unary.ensures) c.settle.ensures

pub returns : goal.returns
returns c =
    let v = c.one_in in
    let s = scalar_found_lem c.args.operand.now v.result v.ensures _ _ c.in-Some.is in
    rw (s, ← c.unary_scalar.ensures) c.settle-2.ensures
