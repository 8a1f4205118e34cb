-- A literal's type and shape.
use Rattle.sheet.proofs.Components.{ok_by_tests}
use Rattle.sheet.proofs.literals.literal_ok.Goals as goal

pub returns : goal.returns
returns c =
    let a = c.args in
    ok_by_tests _ _ a.setting a.h c.shape_ok.ensures c.concrete.ensures
