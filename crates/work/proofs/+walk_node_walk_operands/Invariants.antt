-- What a node means, with its operands: the bytes left fall at each call.
use Prim.Native.Nat.{◌+◌, ◌-◌}
use lib.ListN.{length}
use Rattle.work.proofs.+walk_node_walk_operands.Given as goal

abbrev pub decreases-walk_node : goal.decreases-walk_node
decreases-walk_node l = length l.b.now - l.at

abbrev pub decreases-walk_operands : goal.decreases-walk_operands
decreases-walk_operands l = length l.b.now - (l.at + 1)
