-- `booth::wgsl_binary` meets its contract: two scalars are the operands in their bytes.
use Rattle.booth.proofs.Operands.{scalar_found_lem}
use Rattle.booth.proofs.wgsl_binary.Goals as goal

pub returns : goal.returns
returns c =
    let l = scalar_found_lem c.args.left.now c.one_in.result c.one_in.ensures _ _ c.in-Some-Some.is-0 in
    let r = scalar_found_lem c.args.right.now c.one_in-2.result c.one_in-2.ensures _ _ c.in-Some-Some.is-1 in
    rw (l, r, ← c.binary_scalars.ensures) c.settle.ensures
