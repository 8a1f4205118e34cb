-- The bytes 0 are counted.
use Rattle.std.proofs.Common.{◌∙◌, sym, eqb, rules, tests}
use Rattle.std.proofs.lemmas.Iterator.{YieldsList-from_slice}
use Rattle.std.proofs.lemmas.Iterator.Consumers.{count_from_yields_List, YieldsList-from_filter}
use Rattle.std.proofs.lemmas.List.Sums.{length-filter}
use Rattle.words.proofs.Splits.{zeros_counted}
use Rattle.words.proofs.split.count.Goals as goal

pub returns : goal.returns
returns c =
    count_from_yields_List c.filter.result c.count.result c.count.ensures.ran (YieldsList-from_filter _ (λ b. eqb b 0) (YieldsList-from_slice c.args.s.now cc) c.filter.ensures.closure (λ x r q k. search (rules, tests)))
    ∙ length-filter (λ b. eqb b 0) c.args.s.now ∙ sym (zeros_counted c.args.s.now)
