-- `booth::direct::fills` meets its contract.
use Rattle.booth.proofs.direct.fills.Goals as goal

pub returns : goal.returns
returns c = rw c.carries.ensures
