-- The bytes left are compared with those that are asked for.
use native.Mathlib.Omega.{arith}
use mathlib.Core.Path.{◌≡◌}
use borrow.Author.Tests.{le-leb, lt-leb}
use Prim.Native.Nat.{ℕ, ◌-◌}
use lib.ListN.{length}
use Rattle.std.specs.Prelude.{Result, Ok, Err, ⊤}
use Rattle.low.specs.declared.Refused.{Refused}
use Rattle.low.specs.Read.{must}
use Rattle.sheet.proofs.there.Goals as goal

no_answer : (r : Refused) → ◌≡◌ {A = Result ⊤ Refused} (Err r) (Ok tt) → ⊥
no_answer r e = let z : ◌≡◌ {A = ℕ} 0 1 = cc in omega arith

pub returns-then-remaining-n : goal.returns-then-remaining-n
unfolding must
returns-then-remaining-n c = record {
  answer = rw c.refused.ensures (simp (lt-leb c.args.n (length c.args.b.now - c.args.at) (omega arith)));
  left = λ e. absurd (no_answer _ e);
}

pub returns : goal.returns
unfolding must
returns c = record { answer = simp (le-leb c.args.n (length c.args.b.now - c.args.at) (omega arith)); left = λ e. omega arith }
