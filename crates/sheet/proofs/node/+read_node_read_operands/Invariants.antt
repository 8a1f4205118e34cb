-- The node reader and the operand reader: they call one another, and the bytes left fall at each call.
use Prim.Native.Nat.{◌+◌, ◌-◌}
use lib.ListN.{length}
use Rattle.sheet.proofs.node.+read_node_read_operands.Given as goal

abbrev pub decreases-read_node : goal.decreases-read_node
decreases-read_node l = length l.b.now - l.at

abbrev pub decreases-read_operands : goal.decreases-read_operands
decreases-read_operands l = length l.b.now - (l.at + 1)
