-- `cases::scalars::binary` meets its contract. Assumes nothing.
use mathlib.Core.Path.{◌∙◌}
use Rattle.cases.specs.Scalars.{binary_by}
use Rattle.cases.proofs.Codes.{other_binary}
use borrow.Author.Rules.{rules}
use Rattle.cases.proofs.scalars.binary.Goals as goal

pub returns-in-1 : goal.returns-in-1
unfolding binary_by
returns-in-1 c = rw c.in-1.is c.op_or.ensures

pub returns-in-2 : goal.returns-in-2
unfolding binary_by
returns-in-2 c = rw c.in-2.is c.op_and.ensures

pub returns-in-3 : goal.returns-in-3
unfolding binary_by
returns-in-3 c = rw c.in-3.is c.op_add.ensures

pub returns-in-4 : goal.returns-in-4
unfolding binary_by
returns-in-4 c = rw c.in-4.is c.op_sub.ensures

pub returns-in-5 : goal.returns-in-5
unfolding binary_by
returns-in-5 c = rw c.in-5.is c.op_mul.ensures

pub returns-in-6 : goal.returns-in-6
unfolding binary_by
returns-in-6 c = rw c.in-6.is c.op_div.ensures

pub returns-in-7 : goal.returns-in-7
unfolding binary_by
returns-in-7 c = rw c.in-7.is c.op_rem.ensures

pub returns-in-8 : goal.returns-in-8
unfolding binary_by
returns-in-8 c = rw c.in-8.is c.op_eq.ensures

pub returns-in-9 : goal.returns-in-9
unfolding binary_by
returns-in-9 c = rw c.in-9.is c.op_ne.ensures

pub returns-in-10 : goal.returns-in-10
unfolding binary_by
returns-in-10 c = rw c.in-10.is c.op_lt.ensures

pub returns-in-11 : goal.returns-in-11
unfolding binary_by
returns-in-11 c = rw c.in-11.is c.op_le.ensures

pub returns-in-12 : goal.returns-in-12
unfolding binary_by
returns-in-12 c = rw c.in-12.is c.op_gt.ensures

pub returns-in-13 : goal.returns-in-13
unfolding binary_by
returns-in-13 c = rw c.in-13.is c.op_ge.ensures

pub returns-in-14 : goal.returns-in-14
unfolding binary_by
returns-in-14 c = rw c.in-14.is c.op_bitor.ensures

pub returns-in-15 : goal.returns-in-15
unfolding binary_by
returns-in-15 c = rw c.in-15.is c.op_bitand.ensures

pub returns-in-17 : goal.returns-in-17
unfolding binary_by
returns-in-17 c = rw c.in-17.is c.op_shl.ensures

pub returns-in-18 : goal.returns-in-18
unfolding binary_by
returns-in-18 c = rw c.in-18.is c.op_shr.ensures

pub returns-in_default : goal.returns-in_default
returns-in_default c =
    let a = c.args in
    let m = c.in_default.in_default-own.rest in
    c.op_bitxor.ensures ∙ other_binary a.stage a.l a.r a.op m.0.0 m.0.1 m.1
