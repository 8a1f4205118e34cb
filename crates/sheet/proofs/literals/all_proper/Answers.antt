-- The components are judged one by one, by their numbers.
use mathlib.Core.Path.{refl, ap, ◌∙◌}
use Prim.Native.Nat.{ℕ, ◌+◌, ◌*◌}
use native.Mathlib.Omega.{arith}
use borrow.Author.Rules.{rules}
use Rattle.std.proofs.lemmas.Iterator.{YieldsList-from_range}
use Rattle.std.proofs.lemmas.Iterator.Search.{all_from_yields_List}
use Rattle.low.specs.Bytes.{whole, part}
use Rattle.value.specs.Pattern.{proper_of}
use Rattle.sheet.specs.Node.{all_proper}
use Rattle.sheet.proofs.Components.{by_number}
use Rattle.sheet.proofs.literals.all_proper.Goals as goal

pub returns : goal.returns
returns c =
    let a = c.args in
    all_from_yields_List (λ (i : ℕ). proper_of a.ty (whole (part a.b.now (a.at + 8 * i) 8))) _ _ _ c.all.ensures.ran (YieldsList-from_range 0 a.n a.n refl (omega arith))
    (λ x r q k. search rules)
    ∙ by_number a.ty a.b.now a.at 0 a.n ∙ ap (all_proper a.ty a.n a.b.now) (omega arith)
