-- `dispatch::judge` meets its contract. Assumes nothing.
use mathlib.Core.Path.{sym, ◌∙◌}
use borrow.Author.Rules.{rules}
use Rattle.dispatch.specs.Meaning.{judged}
use Rattle.dispatch.proofs.Checks.{refuses, passes}
use Rattle.dispatch.proofs.judge.Goals as goal

pub returns-then-not-pair_ok : goal.returns-then-not-pair_ok
unfolding judged
returns-then-not-pair_ok c = refuses _ _ c.pair_ok.ensures _ _ _ c.if-not-pair_ok.true-raw c.refused.ensures

pub returns-in_default : goal.returns-in_default
unfolding judged
returns-in_default c =
    passes _ _ c.pair_ok.ensures _ _ _ c.if-not-pair_ok.false-raw
    (rw (← c.targets_of.ensures, c.in_default.is) c.refused-in_default.ensures)

pub convert_both-requires : goal.convert_both-requires
convert_both-requires c =
    let p = c.requires in
    (p.0, p.1, sym c.targets_of.ensures ∙ c.in-Some.is)

pub returns : goal.returns
unfolding judged
returns c =
    passes _ _ c.pair_ok.ensures _ _ _ c.if-not-pair_ok.false-raw
    (rw (← c.targets_of.ensures, c.in-Some.is) c.convert_both.ensures)
