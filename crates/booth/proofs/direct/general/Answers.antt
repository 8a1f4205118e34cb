-- `booth::direct::general` meets its contract.
use Rattle.booth.proofs.direct.general.Goals as goal

pub returns : goal.returns
returns c =
    rw (← c.operand-l.ensures, ← c.operand-r.ensures, ← c.binary.ensures) c.settle.ensures
