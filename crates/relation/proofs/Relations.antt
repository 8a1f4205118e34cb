-- What is known of the numbers holds of the pair. Assumes nothing.
use mathlib.Core.Path.{◌≡◌, sym, ap, ◌∙◌}
use Rattle.value.specs.Answer.{Result}

pub of_numbers : {N : Type 0} (m : N → Result) {n v q : N} {r : Result} → n ≡ q → n ≡ v → r ≡ m v → r ≡ m q
of_numbers m e g h = h ∙ ap m (sym g ∙ e)
