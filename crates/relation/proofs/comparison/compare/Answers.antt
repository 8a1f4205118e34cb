-- `relation::comparison::compare` meets its contract: what is known of the numbers holds of the pair. Assumes nothing.
use Rattle.std.proofs.Common.{◌≡◌, Some, ap, rules}
use Rattle.relation.specs.Comparison.{compared, numbers_of}
use Rattle.relation.proofs.Relations.{of_numbers}
use Rattle.relation.proofs.comparison.compare.Goals as goal

pub returns-in-Truths : goal.returns-in-Truths
returns-in-Truths c =
    let e : Some c.numbers.result ≡ numbers_of c.args.p = search rules in
    of_numbers (compared c.args.op) e (ap Some c.in-Truths.is) c.compare_truths.ensures
