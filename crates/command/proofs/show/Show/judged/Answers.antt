-- Each complaint in the order of the definition, and else the pages.
use native.Mathlib.Omega.{arith}
use Rattle.command.proofs.Shown.{added_as}
use Rattle.command.proofs.Judging.{count_short, said_too_few, said_bad, said_unread, said_pages}
use Rattle.command.proofs.show.Show.judged.Goals as goal

pub first_bad-requires : goal.first_bad-requires
first_bad-requires c = omega (arith, count_short c.args.line.now)

pub pages-requires : goal.pages-requires
pages-requires c =
    let few = count_short c.args.line.now in
    (omega arith, omega arith)

pub returns-then-odd-ne0 : goal.returns-then-odd-ne0
returns-then-odd-ne0 c =
    let s = c.args in
    added_as c.complain.ensures
    (said_too_few s.line.now s.readable s.bytes.now _ _ c.requires.1 c.requires.3 c.if-odd-ne0.true _ c.word.ensures.bytes)

pub returns-in-Some : goal.returns-in-Some
returns-in-Some c =
    let s = c.args in
    added_as c.complain-in-Some.ensures
    (said_bad s.line.now s.readable s.bytes.now _ _ c.requires.1 c.requires.3 c.if-odd-ne0.false _ c.first_bad.ensures _ c.in-Some.is _ c.word-in-Some.ensures.bytes)

pub returns-then-not-readable : goal.returns-then-not-readable
returns-then-not-readable c =
    let s = c.args in
    added_as c.complain-then-not-readable.ensures
    (said_unread s.line.now s.readable s.bytes.now _ _ c.requires.1 c.requires.3 c.if-odd-ne0.false _ c.first_bad.ensures c.in_default.is
    c.if-not-readable.true-raw _ c.word-then-not-readable.ensures.bytes)

pub returns-else-not-readable : goal.returns-else-not-readable
returns-else-not-readable c =
    let s = c.args in
    added_as c.pages.ensures
    (said_pages s.line.now s.readable s.bytes.now _ _ c.requires.1 c.requires.3 c.if-odd-ne0.false _ c.first_bad.ensures c.in_default.is c.if-not-readable.false-raw)
