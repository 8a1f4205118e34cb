-- What an operator may answer, check after check. Assumes nothing.
use mathlib.Core.Path.{◌≡◌, refl, sym, ◌∙◌}
use mathlib.Core.Bool.{Bool, true, false, true≢false}
use mathlib.Core.List.{List}
use mathlib.Core.Logic.{inl, inr}
use Prim.Native.Nat.{ℕ, ◌≤◌}
use native.Mathlib.Omega.{arith}
use borrow.Author.Tests.{ne_eqb}
use Rattle.std.specs.Prelude.{Ok, Err}
use Rattle.value.specs.declared.Refusal.{Refusal}
use Rattle.value.specs.Answer.{carries}
use Rattle.value.specs.Pattern.{pick}
use Rattle.scalar.proofs.Keeps.{Refuses}
use Rattle.operand.specs.Operand.{component_count, a_scalar}
use Rattle.operand.specs.Outcome.{refused_with, refused_on, refused_as}
use Rattle.operand.specs.declared.Outcome.{Outcome}
use Rattle.operand.specs.declared.Shape.{Shape}
use Rattle.operand.proofs.Shapes.{Shaped, unshaped}
use Rattle.operand.proofs.Answers.{Fine, Sixteen, Answers}
use Rattle.components.specs.Components.{Out}
use Rattle.components.proofs.Satisfies.{Satisfies}
use Rattle.dispatch.specs.Meaning.{refuse_unless, on_result, shaped_answer}

-- a scalar operator's refusal: beside the operand that it carries, or zeros
refusing : (r : Refusal) → Refuses r → Answers (refused_as r)
refusing r h = go (carries r.number) refl
  where
    go : (t : Bool) → carries r.number ≡ t → Answers (pick t (refused_on r.number r.detail (a_scalar r.ty r.bits)) (refused_with r.number r.detail))
    go true e =
        let c = h.operand e in
        inr (record {
          low = h.low;
          high = h.high;
          plain = h.plain;
          small = h.small;
          carried = λ q. record { integer = c.0; fine = c.1; alone = refl };
          zeros = λ q. absurd (true≢false (sym e ∙ q));
        })
    go false e =
        inr (record { low = h.low; high = h.high; plain = h.plain; small = h.small; carried = λ q. absurd (true≢false (sym q ∙ e)); zeros = λ q. refl })

pub numbered : (n : ℕ) → 1 ≤ n → n ≤ 3 → Answers (refused_with n 0)
numbered n h k =
    inr (record {
      low = h;
      high = omega arith;
      plain = λ a b. refl;
      small = omega arith;
      carried = λ q. absurd (true≢false (sym q ∙ low_plain));
      zeros = λ q. refl;
    })
  where
    low_plain : carries n ≡ false
    low_plain = rw (ne_eqb n 9 (λ e. omega (arith, k, e)), ne_eqb n 10 (λ e. omega (arith, k, e)))

pub needed : (b : Bool) (n : ℕ) (o : Outcome) → 1 ≤ n → n ≤ 3 → Answers o → Answers (refuse_unless b n o)
needed true n o h k f = f
needed false n o h k f = numbered n h k

pub going : {A : Type 0} (P : A → Type 0) (q : Out A) (k : A → Outcome) → Satisfies P Refuses q → ((a : A) → Answers (k a)) → Answers (on_result q k)
going P (Ok a) k h f = f a
going P (Err r) k h f = refusing r h

pub answering : (q : Out (List ℕ)) (ty : ℕ) (s : Shape) → Shaped ty s → Satisfies (Sixteen (Fine ty) (component_count s)) Refuses q
    → Answers (shaped_answer q ty s.cols s.rows)
answering (Ok cs) ty s h k = inl (record { status = refl; detail = refl; shape = unshaped ty s h; parts = k })
answering (Err r) ty s h k = refusing r k
