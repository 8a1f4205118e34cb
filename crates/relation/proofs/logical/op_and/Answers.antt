-- `relation::logical::op_and` meets its contract. Assumes nothing.
use Rattle.std.proofs.Common.{◌&&◌, ap, ◌∙◌}
use Rattle.relation.specs.Logical.{and_of}
use Rattle.relation.proofs.Refused.{kept_alike}
use Rattle.relation.proofs.logical.op_and.Goals as goal

pub returns : goal.returns
returns c = let a = c.args in c.and_pair.ensures ∙ ap and_of c.pair.ensures ∙ kept_alike ◌&&◌ a.l a.r
