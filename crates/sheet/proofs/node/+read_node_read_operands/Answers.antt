-- The node reader and the operand reader: they call one another, and the bytes left fall at each call.
use native.Mathlib.Omega.{arith}
use mathlib.Core.Path.{refl, ◌≡◌, sym, ap, ◌∙◌}
use Rattle.std.specs.Prelude.{Err}
use borrow.Author.Rules.{rules}
use borrow.Author.Tests.{not-true, not-false}
use Rattle.low.specs.Read.{seen_of}
use Rattle.sheet.specs.Node.{read_node}
use Rattle.sheet.proofs.Nodes.{not_there, node_cut, seen_literal, seen_reference, seen_unary, seen_binary, seen_unknown, read_past}
use Rattle.sheet.proofs.Nodes.{operator_cut, operator_bad, operator_not, operator_one, operator_two}
use Rattle.sheet.proofs.node.+read_node_read_operands.Goals as goal

pub read_node-returns-then-levels-eq0 : goal.read_node-returns-then-levels-eq0
unfolding read_node
read_node-returns-then-levels-eq0 t c = rw c.refused.ensures (simp c.if-levels-eq0.true)

pub read_node-returns-in_err-there : goal.read_node-returns-in_err-there
read_node-returns-in_err-there t c =
    let e : c.from_residual.result ≡ Err c.in_err-there.field-0.0 = search rules in
    let q = not_there _ _ _ _ c.in_err-there.ensures.answer in
    rw (e, q.1) (ap seen_of (sym (node_cut _ _ _ _ _ _ c.if-levels-eq0.false (omega (arith, q.0)))))

pub read_node-read_operands-requires : goal.read_node-read_operands-requires
read_node-read_operands-requires t c = (omega (arith, c.in_ok-there.ensures.left refl), tt)

pub read_node-read_operands-requires-in-4 : goal.read_node-read_operands-requires-in-4
read_node-read_operands-requires-in-4 t c = (omega (arith, c.in_ok-there.ensures.left refl), tt)

pub read_node-returns-in_err-read_literal-in-1 : goal.read_node-returns-in_err-read_literal-in-1
read_node-returns-in_err-read_literal-in-1 t c =
    let e : c.from_residual-in_err-read_literal-in-1.result ≡ Err c.in_err-read_literal-in-1.field-0.0 = search rules in
    e ∙ sym c.in_err-read_literal-in-1.was ∙ c.read_literal.ensures ∙ sym (seen_literal _ _ _ _ _ _ c.if-levels-eq0.false (omega (arith, c.in_ok-there.ensures.left refl)) c.in-1.is)

pub read_node-returns-in_ok-read_literal-in-1 : goal.read_node-returns-in_ok-read_literal-in-1
read_node-returns-in_ok-read_literal-in-1 t c =
    sym c.in_ok-read_literal-in-1.was ∙ c.read_literal.ensures ∙ sym (seen_literal _ _ _ _ _ _ c.if-levels-eq0.false (omega (arith, c.in_ok-there.ensures.left refl)) c.in-1.is)

pub read_node-returns-in-2 : goal.read_node-returns-in-2
read_node-returns-in-2 t c = c.read_reference.ensures ∙ sym (seen_reference _ _ _ _ _ _ c.if-levels-eq0.false (omega (arith, c.in_ok-there.ensures.left refl)) c.in-2.is)

pub read_node-returns-in-3 : goal.read_node-returns-in-3
read_node-returns-in-3 t c = c.read_operands.ensures ∙ sym (seen_unary _ _ _ _ _ _ c.if-levels-eq0.false (omega (arith, c.in_ok-there.ensures.left refl)) c.in-3.is)

pub read_node-returns-in-4 : goal.read_node-returns-in-4
read_node-returns-in-4 t c = c.read_operands-in-4.ensures ∙ sym (seen_binary _ _ _ _ _ _ c.if-levels-eq0.false (omega (arith, c.in_ok-there.ensures.left refl)) c.in-4.is)

pub read_node-returns-in_default : goal.read_node-returns-in_default
read_node-returns-in_default t c =
    let others = c.in_default.in_default-own.rest in
    rw c.refused-in_default.ensures
    (sym (seen_unknown _ _ _ _ _ _ c.if-levels-eq0.false (omega (arith, c.in_ok-there.ensures.left refl)) others.0.0.0.1 others.0.0.1 others.0.1 others.1))

pub read_operands-returns-in_err-there : goal.read_operands-returns-in_err-there
read_operands-returns-in_err-there t c =
    let e : c.from_residual.result ≡ Err c.in_err-there.field-0.0 = search rules in
    let q = not_there _ _ _ _ c.in_err-there.ensures.answer in
    rw (e, q.1) (operator_cut _ _ _ _ (omega (arith, q.0)))

pub read_operands-returns-then-not-known_operator : goal.read_operands-returns-then-not-known_operator
read_operands-returns-then-not-known_operator t c =
    rw c.refused.ensures
    (operator_bad _ _ _ _ (omega (arith, c.in_ok-there.ensures.left refl)) _ c.known_operator.ensures (not-true _ c.if-not-known_operator.true-raw))

pub read_operands-read_node-requires : goal.read_operands-read_node-requires
read_operands-read_node-requires t c = (omega (arith, c.in_ok-there.ensures.left refl), tt)

pub read_operands-returns-in_err-next : goal.read_operands-returns-in_err-next
read_operands-returns-in_err-next t c =
    let e : c.from_residual-in_err-next.result ≡ Err c.in_err-next.field-0.0 = search rules in
    e ∙ operator_not _ _ _ _ (omega (arith, c.in_ok-there.ensures.left refl)) _ c.known_operator.ensures (not-false _ c.if-not-known_operator.false-raw) _ c.read_node.ensures _ c.in_err-next.was

pub read_operands-read_node-requires-then-two : goal.read_operands-read_node-requires-then-two
read_operands-read_node-requires-then-two t c =
    (omega (arith, c.in_ok-there.ensures.left refl, read_past _ _ _ _ _ _ _ (omega (arith, c.in_ok-there.ensures.left refl)) (sym c.in_ok-next.was ∙ c.read_node.ensures)), tt)

pub read_operands-returns-in_err-read_node : goal.read_operands-returns-in_err-read_node
read_operands-returns-in_err-read_node t c =
    let e : c.from_residual-in_err-read_node.result ≡ Err c.in_err-read_node.field-0.0 = search rules in
    e ∙ sym c.in_err-read_node.was ∙ c.read_node-then-two.ensures
    ∙ operator_two _ _ _ _ (omega (arith, c.in_ok-there.ensures.left refl)) _ c.known_operator.ensures (not-false _ c.if-not-known_operator.false-raw) _ c.read_node.ensures _ c.in_ok-next.was c.if-two.true

pub read_operands-returns-then-two : goal.read_operands-returns-then-two
read_operands-returns-then-two t c =
    sym c.in_ok-read_node.was ∙ c.read_node-then-two.ensures
    ∙ operator_two _ _ _ _ (omega (arith, c.in_ok-there.ensures.left refl)) _ c.known_operator.ensures (not-false _ c.if-not-known_operator.false-raw) _ c.read_node.ensures _ c.in_ok-next.was c.if-two.true

pub read_operands-returns : goal.read_operands-returns
read_operands-returns t c =
    sym c.in_ok-next.was ∙ c.read_node.ensures
    ∙ operator_one _ _ _ _ (omega (arith, c.in_ok-there.ensures.left refl)) _ c.known_operator.ensures (not-false _ c.if-not-known_operator.false-raw) c.if-two.false
