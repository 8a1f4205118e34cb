-- `relation::logical::op_or` meets its contract. Assumes nothing.
use Rattle.std.proofs.Common.{◌||◌, ap, ◌∙◌}
use Rattle.relation.specs.Logical.{or_of}
use Rattle.relation.proofs.Refused.{kept_alike}
use Rattle.relation.proofs.logical.op_or.Goals as goal

pub returns : goal.returns
returns c = let a = c.args in c.or_pair.ensures ∙ ap or_of c.pair.ensures ∙ kept_alike ◌||◌ a.l a.r
