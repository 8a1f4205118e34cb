-- A number that is a type's code.
use mathlib.Core.Path.{◌≡◌, sym, ap, ◌∙◌}
use Prim.Native.Nat.{ℕ}
use Rattle.std.proofs.Common.{Option, Some, None}
use Rattle.words.specs.Spelling.{spelled}
use Rattle.asked.specs.Asked.{code_of}
use Rattle.asked.proofs.Asking.{large_code, code_told, no_number, byte_fits, byte_over}
use Rattle.asked.proofs.asked.code.Goals as goal

pub returns-in_err-decimal : goal.returns-in_err-decimal
returns-in_err-decimal c =
    let n : ◌≡◌ {A = Option ℕ} None (spelled 10 c.args.word.now) = sym c.in_err-decimal.was ∙ c.decimal.ensures in
    c.from_residual.ensures ∙ no_number ∙ ap code_of n

pub returns-in_err-ty : goal.returns-in_err-ty
returns-in_err-ty c =
    let n : Some c.in_ok-decimal.field-0 ≡ spelled 10 c.args.word.now = sym c.in_ok-decimal.was ∙ c.decimal.ensures in
    c.from_residual-in_err-ty.ensures ∙ large_code c.in_ok-decimal.field-0 (byte_over _ _ c.try_from.ensures c.in_err-ty.ensures.value) ∙ ap code_of n

pub returns : goal.returns
returns c =
    let n : Some c.in_ok-decimal.field-0 ≡ spelled 10 c.args.word.now = sym c.in_ok-decimal.was ∙ c.decimal.ensures in
    let t : c.in_ok-ty.ty ≡ c.in_ok-decimal.field-0 = byte_fits _ _ _ c.try_from.ensures c.in_ok-ty.ensures.value in
    c.then_some.ensures ∙ code_told c.in_ok-ty.ty c.known.result c.known.ensures ∙ ap (λ (i : ℕ). code_of (Some i)) t ∙ ap code_of n
