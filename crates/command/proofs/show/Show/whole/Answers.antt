-- Too many words, none for the sheet's name, or the text of the words that were judged.
use native.Mathlib.Omega.{arith}
use Rattle.command.proofs.Shown.{added_as}
use Rattle.command.proofs.Judging.{words_after_lem, said_long, said_usage, said_judged}
use Rattle.command.proofs.show.Show.whole.Goals as goal

pub returns-then-line-gt65536 : goal.returns-then-line-gt65536
returns-then-line-gt65536 c =
    let s = c.args in
    added_as c.complain.ensures (said_long s.line.now s.readable s.bytes.now c.if-line-gt65536.true)

pub judged-requires : goal.judged-requires
judged-requires c =
    let counted = c.count-n.ensures in (
      c.requires,
      c.sheet_at-first.ensures.0,
      c.sheet_at-first.ensures.1,
      words_after_lem c.args.line.now _ _ c.sheet_at-first.ensures.0 counted,
      omega arith,
      omega arith,
    )

pub returns-then-n-first : goal.returns-then-n-first
returns-then-n-first c =
    let s = c.args in
    added_as c.text.ensures
    (said_usage s.line.now s.readable s.bytes.now c.if-line-gt65536.false _ _ c.sheet_at-first.ensures.0 c.count-n.ensures c.if-n-first.true)

pub returns-else-n-first : goal.returns-else-n-first
returns-else-n-first c =
    let s = c.args in
    added_as c.judged.ensures
    (said_judged s.line.now s.readable s.bytes.now c.if-line-gt65536.false _ _ c.sheet_at-first.ensures.0 c.count-n.ensures c.if-n-first.false)
