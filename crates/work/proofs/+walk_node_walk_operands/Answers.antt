-- What a node means, with its operands: the bytes left fall at each call.
use mathlib.Core.Path.{refl, ap, ◌∙◌}
use native.Mathlib.Omega.{arith}
use borrow.Author.Rules.{rules}
use Rattle.work.specs.Inside.{tag_byte}
use Rattle.work.proofs.Trees.{starts, four, literal_stands, reference_fits, operator_there, first_stands, second_stands, second_later, literal_means, reference_means, one_means, two_means}
use Rattle.work.proofs.+walk_node_walk_operands.Goals as goal

pub walk_node-bounds-b-at : goal.walk_node-bounds-b-at
walk_node-bounds-b-at t c = starts _ _ _ _ _ c.requires.parsed

pub walk_node-walk_literal-requires : goal.walk_node-walk_literal-requires
walk_node-walk_literal-requires t c = literal_stands _ _ _ _ _ c.requires.parsed c.in-1.is

pub walk_node-walk_reference-requires : goal.walk_node-walk_reference-requires
walk_node-walk_reference-requires t c = reference_fits _ _ _ _ _ c.requires.parsed c.in-2.is

pub walk_node-walk_operands-requires : goal.walk_node-walk_operands-requires
walk_node-walk_operands-requires t c =
    (omega (arith, starts _ _ _ _ _ c.requires.parsed), (c.requires, c.in-3.is))

pub walk_node-walk_operands-requires-in_default : goal.walk_node-walk_operands-requires-in_default
walk_node-walk_operands-requires-in_default t c =
    let tag = four _ _ _ _ _ c.requires.parsed (search rules) (search rules) (search rules) in
    (omega (arith, starts _ _ _ _ _ c.requires.parsed), (c.requires, tag))

pub walk_node-returns-in-1 : goal.walk_node-returns-in-1
walk_node-returns-in-1 t c = literal_means _ _ _ _ _ _ c.in-1.is c.walk_literal.ensures

pub walk_node-returns-in-2 : goal.walk_node-returns-in-2
walk_node-returns-in-2 t c = reference_means _ _ _ _ _ _ c.in-2.is c.walk_reference.ensures

pub walk_node-returns-in-3 : goal.walk_node-returns-in-3
walk_node-returns-in-3 t c = c.walk_operands.ensures

pub walk_node-returns-in_default : goal.walk_node-returns-in_default
walk_node-returns-in_default t c = c.walk_operands-in_default.ensures

pub walk_operands-overflow_add-op : goal.walk_operands-overflow_add-op
walk_operands-overflow_add-op t c =
    omega (arith, operator_there _ _ _ c.requires.0 c.args.two c.requires.1)

pub walk_operands-bounds-b-at : goal.walk_operands-bounds-b-at
walk_operands-bounds-b-at t c =
    operator_there _ _ _ c.requires.0 c.args.two c.requires.1

pub walk_operands-overflow_add-at : goal.walk_operands-overflow_add-at
walk_operands-overflow_add-at t c =
    omega (arith, operator_there _ _ _ c.requires.0 c.args.two c.requires.1)

pub walk_operands-walk_node-first-requires : goal.walk_operands-walk_node-first-requires
walk_operands-walk_node-first-requires t c =
    let node = c.requires.0 in
    let tag = c.requires.1 in
    (omega (arith, operator_there _ _ _ node c.args.two tag), first_stands _ _ _ node c.args.two tag)

pub walk_operands-walk_node-second-requires : goal.walk_operands-walk_node-second-requires
walk_operands-walk_node-second-requires t c =
    let first = c.walk_node-first.ensures in
    let node = c.requires.0 in
    let tag = c.requires.1 in
    let four = tag ∙ ap tag_byte c.if-two.true in
    let later = second_later _ _ _ node _ _ four _ first in
    (omega (arith, later, operator_there _ _ _ node c.args.two tag), second_stands _ _ _ node _ _ four _ first)

pub walk_operands-returns-then-two : goal.walk_operands-returns-then-two
walk_operands-returns-then-two t c =
    two_means _ _ _ _ _ _ _ c.walk_node-first.ensures (c.requires.1 ∙ ap tag_byte c.if-two.true) _ c.walk_node-second.ensures c.on_two.ensures refl

pub walk_operands-returns : goal.walk_operands-returns
walk_operands-returns t c =
    one_means _ _ _ _ _ _ _ c.walk_node-first.ensures (c.requires.1 ∙ ap tag_byte c.if-two.false) c.on_one.ensures refl
