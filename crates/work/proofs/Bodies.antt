-- Laws of a whole body: what its entry means, by the entry's kind.
use mathlib.Core.Path.{◌≡◌, sym, ap, ◌∙◌}
use mathlib.Core.Bool.{false}
use mathlib.Core.List.{List}
use Prim.Native.Nat.{ℕ}
use lib.ListN.{length}
use Rattle.types.specs.Edition.{Edition}
use Rattle.operand.specs.declared.Outcome.{Outcome}
use Rattle.operand.specs.Outcome.{value_of}
use Rattle.sheet.specs.declared.Kind.{Kind}
use Rattle.sheet.specs.declared.Kind.TheVariants.{Setting, Expression}
use Rattle.sheet.specs.declared.Literal.{Literal}
use Rattle.sheet.specs.Tree.{Entry}
use Rattle.sheet.specs.Stage.{kind_of}
use Rattle.sheet.specs.Node.{read_literal, literal_in}
use Rattle.sheet.specs.Accepted.{NodeAt, Bodied}
use Rattle.sheet.proofs.Accepted.{BodyHolds, a_setting, an_expression, holds, literal_value_lem, unlike, expression_fills, expression_filled}
use Rattle.work.specs.declared.Walked.{Walked}
use Rattle.work.specs.Meaning.{entry_meaning}
use Rattle.work.specs.Inside.{NodeMeans, BodyMeans}

module _ (ed : Edition) (stage : ℕ) (b : List ℕ) (k : Kind) (e : k ≡ kind_of stage) where
  -- an expression stands in a body that is no setting's
  pub body_stands : k ≡ Expression → Bodied ed stage b → NodeAt ed b 0
  body_stands q y =
      let w = expression_filled ed stage b k e q y in
      record { tree = w.tree; next = length b; parsed = record { levels = 32; stages = w.fills.stages; own = w.fills.own; read = w.fills.read } }

module _ (ed : Edition) (stage : ℕ) (b results : List ℕ) (k : Kind) (e : k ≡ kind_of stage) where
  -- a setting's is its value
  pub body_literal : k ≡ Setting → (o : Outcome) → o ≡ value_of (literal_in (read_literal ed false b 0)).value → BodyMeans ed stage b results o
  unfolding BodyMeans entry_meaning
  body_literal q o h = λ x y. go x (holds ed y)
    where
      go : {stages : List ℕ} (x : Entry) → BodyHolds ed stages stage b x → o ≡ entry_meaning ed results x
      go x (a_setting s v z f g) = h ∙ ap (λ (w : Literal). value_of w.value) (literal_value_lem ed b 0 v (length b) g) ∙ sym (ap (entry_meaning ed results) z)
      go x (an_expression s t z f) = absurd (unlike (kind_of stage) (sym e ∙ q) s)

  -- another's is the meaning of its expression
  pub body_node : k ≡ Expression → (r : Walked) → NodeMeans ed stage b results 0 r → BodyMeans ed stage b results r.answer
  unfolding BodyMeans NodeMeans entry_meaning
  body_node q r h = λ x y.
      let w = expression_fills ed stage b k e q x y in
      let f = w.2 in
      (h w.0 (length b) (record { levels = 32; stages = f.stages; own = f.own; read = f.read })).0 ∙ sym (ap (entry_meaning ed results) w.1)
