-- `value::kept` meets its contract. Assumes nothing.
use borrow.Author.Tests.{lt-ltb, le-ltb}
use Rattle.value.specs.Pattern.{kept_of}
use Rattle.types.proofs.Choice.{picked, passed}
use Rattle.value.proofs.Widths.{plain_kept}
use Rattle.value.proofs.kept.Goals as goal

pub returns-then-bits-gt9218868437227405312 : goal.returns-then-bits-gt9218868437227405312
unfolding kept_of
returns-then-bits-gt9218868437227405312 c = rw c.in-2.is (picked _ _ (lt-ltb _ _ c.if-bits-gt9218868437227405312.true))

pub returns-else-bits-gt9218868437227405312 : goal.returns-else-bits-gt9218868437227405312
unfolding kept_of
returns-else-bits-gt9218868437227405312 c = rw c.in-2.is (passed _ _ (le-ltb _ _ c.if-bits-gt9218868437227405312.false))

pub returns-then-bits-gt2139095040 : goal.returns-then-bits-gt2139095040
unfolding kept_of
returns-then-bits-gt2139095040 c = rw c.in-5.is (picked _ _ (lt-ltb _ _ c.if-bits-gt2139095040.true))

pub returns-else-bits-gt2139095040 : goal.returns-else-bits-gt2139095040
unfolding kept_of
returns-else-bits-gt2139095040 c = rw c.in-5.is (passed _ _ (le-ltb _ _ c.if-bits-gt2139095040.false))

pub returns-then-bits-gt31744 : goal.returns-then-bits-gt31744
unfolding kept_of
returns-then-bits-gt31744 c = rw c.in-6.is (picked _ _ (lt-ltb _ _ c.if-bits-gt31744.true))

pub returns-else-bits-gt31744 : goal.returns-else-bits-gt31744
unfolding kept_of
returns-else-bits-gt31744 c = rw c.in-6.is (passed _ _ (le-ltb _ _ c.if-bits-gt31744.false))

pub returns-in_default : goal.returns-in_default
unfolding kept_of
returns-in_default c = plain_kept _ _ c.in_default.in_default-own.rest
