-- The checks of a change in their order.
use Rattle.std.proofs.Common.{◌≡◌, ℕ, ap, ◌∙◌, rules}
use Rattle.std.specs.Prelude.{Option, Some, None, Result, Err, ok_or}
use Rattle.std.specs.Result.{result_ok}
use Rattle.low.specs.declared.Refused.{Refused}
use Rattle.fold.proofs.Answers.{judged_size, judged_past, judged_none, judged_value, judged_type, judged_fits}
use Rattle.fold.proofs.turns.judge.Goals as goal

-- the refusal in the place of a value that is not there
lost : (x : Option ℕ) (y : Result ℕ Refused) (z r : Refused) → y ≡ ok_or x z → x ≡ None → y ≡ Err r → r ≡ z
lost x y z r e f g = let h : y ≡ Err z = e ∙ ap (λ (o : Option ℕ). ok_or o z) f in cc

pub returns-then-not-sized : goal.returns-then-not-sized
returns-then-not-sized c = rw c.refused.ensures (judged_size _ _ _ _ _ _ _ c.sized.ensures c.if-not-sized.true)

pub returns-in_err-at : goal.returns-in_err-at
returns-in_err-at c =
    let none : c.find.result ≡ None = c.ok_or.ensures.ok_part ∙ ap result_ok c.in_err-at.was in
    let e : c.from_residual.result ≡ Err c.in_err-at.field-0.0 = search rules in
    rw (e, lost _ _ _ _ c.ok_or.ensures.value none c.in_err-at.was, c.refused-2.ensures)
    (judged_past _ _ _ _ _ _ _ c.sized.ensures c.if-not-sized.false _ c.find.ensures none)

pub returns-in_err-own : goal.returns-in_err-own
returns-in_err-own c =
    let there : c.find.result ≡ Some c.in_ok-at.at = c.ok_or.ensures.ok_part ∙ ap result_ok c.in_ok-at.was in
    let none : c.setting_at.result ≡ None = c.ok_or-2.ensures.ok_part ∙ ap result_ok c.in_err-own.was in
    let e : c.from_residual-in_err-own.result ≡ Err c.in_err-own.field-0.0 = search rules in
    rw (e, lost _ _ _ _ c.ok_or-2.ensures.value none c.in_err-own.was, c.refused-3.ensures)
    (judged_none _ _ _ _ _ _ _ c.sized.ensures c.if-not-sized.false _ c.find.ensures _ there _ c.setting_at.ensures none)

pub returns-then-not-proper : goal.returns-then-not-proper
returns-then-not-proper c =
    let there : c.find.result ≡ Some c.in_ok-at.at = c.ok_or.ensures.ok_part ∙ ap result_ok c.in_ok-at.was in
    let own : c.setting_at.result ≡ Some c.in_ok-own.own = c.ok_or-2.ensures.ok_part ∙ ap result_ok c.in_ok-own.was in
    rw c.refused-then-not-proper.ensures
    (judged_value _ _ _ _ _ _ _ c.sized.ensures c.if-not-sized.false _ c.find.ensures _ there _ c.setting_at.ensures _ own _ c.proper.ensures c.if-not-proper.true)

pub returns-then-ty-own : goal.returns-then-ty-own
returns-then-ty-own c =
    let there : c.find.result ≡ Some c.in_ok-at.at = c.ok_or.ensures.ok_part ∙ ap result_ok c.in_ok-at.was in
    let own : c.setting_at.result ≡ Some c.in_ok-own.own = c.ok_or-2.ensures.ok_part ∙ ap result_ok c.in_ok-own.was in
    rw c.refused-then-ty-own.ensures
    (judged_type _ _ _ _ _ _ _ c.sized.ensures c.if-not-sized.false _ c.find.ensures _ there _ c.setting_at.ensures _ own _ c.proper.ensures c.if-not-proper.false c.if-ty-own.true)

pub returns : goal.returns
returns c =
    let there : c.find.result ≡ Some c.in_ok-at.at = c.ok_or.ensures.ok_part ∙ ap result_ok c.in_ok-at.was in
    let own : c.setting_at.result ≡ Some c.in_ok-own.own = c.ok_or-2.ensures.ok_part ∙ ap result_ok c.in_ok-own.was in
    judged_fits _ _ _ _ _ _ _ c.sized.ensures c.if-not-sized.false _ c.find.ensures _ there _ c.setting_at.ensures _ own _ c.proper.ensures c.if-not-proper.false c.if-ty-own.false
