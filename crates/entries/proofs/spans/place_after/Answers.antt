-- After as many turns as there were numbers the place is the one after so many records.
use mathlib.Core.Path.{◌≡◌, refl, sym, ap, ◌∙◌}
use mathlib.Core.List.{List, [], ◌∷◌, ◌++◌}
use Prim.Native.Nat.{ℕ, ◌+◌}
use native.Mathlib.Omega.{arith}
use lib.ListN.{length, length-append}
use borrow.Author.Rules.{rules}
use Rattle.std.proofs.iter.Yields.{nat_range_steps}
use Rattle.std.proofs.lemmas.Fn.{fold_over}
use Rattle.std.proofs.lemmas.Iterator.{YieldsList-from_range}
use Rattle.std.proofs.lemmas.List.FromFn.{length-range_with_len}
use Rattle.entries.specs.Records.{span_of, place_after}
use Rattle.entries.proofs.Places.{place_none, place_more}
use Rattle.entries.proofs.spans.place_after.Goals as goal

pub returns : goal.returns
returns c =
    let a = c.args in
    fold_over nat_range_steps (λ (x : ℕ). x) _ (λ (ys : List ℕ) (at : ℕ). at ≡ place_after a.s.now a.from (length ys)) _
    (λ ys at x b f' j k.
    let e : b ≡ (span_of a.s.now at).next = search rules in
    let n : length (ys ++ x ∷ []) ≡ length ys + 1 = omega (arith, length-append ys (x ∷ [])) in
    (e ∙ place_more _ _ _ _ _ j refl ∙ ap (place_after a.s.now a.from) (sym n), search rules))
    (record { start = 0; end = a.k }) _ _ _ (YieldsList-from_range 0 a.k a.k refl (omega arith)).runs (place_none _ _) c.fold.ensures.ran
    ∙ ap (place_after a.s.now a.from) (length-range_with_len 0 a.k)
