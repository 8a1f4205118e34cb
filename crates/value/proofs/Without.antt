-- What answers say that have no scalar or no detail. Assumes nothing.
use Prim.Native.Nat.{ℕ}
use mathlib.Core.Path.{◌≡◌, refl}
use mathlib.Core.Bool.{false}
use mathlib.Core.List.{List, [], ◌∷◌}
use types.Run.{OneOf, miss}
use denote.Enum.Declared.{tag_of}
use Rattle.std.specs.Prelude.{Ok, Err}
use Rattle.value.specs.declared.Scalar.{Scalar}
use Rattle.value.specs.declared.Scalar.TheVariants.{Bool as bool}
use Rattle.value.specs.declared.OperatorError.{OperatorError}
use Rattle.value.specs.declared.OperatorError.TheVariants as E
use Rattle.value.specs.Answer.{answer_of, detail_of, scalar_in}
use Rattle.value.specs.contracts.OperatorError.{the_type}

-- any other refusal than a shift's
abbrev plain_tags : List ℕ
plain_tags = 0 ∷ 1 ∷ 2 ∷ 3 ∷ 4 ∷ 5 ∷ 6 ∷ []

pub no_scalar : (e : OperatorError) → OneOf plain_tags (tag_of the_type e) → bool false ≡ scalar_in (answer_of (Err e))
no_scalar E.Unary o = refl
no_scalar E.Binary o = refl
no_scalar E.AddOverflow o = refl
no_scalar E.SubOverflow o = refl
no_scalar E.MulOverflow o = refl
no_scalar E.DivByZero o = refl
no_scalar E.RemZeroDiv o = refl
no_scalar (E.ShlOverflow n l) o = absurd (miss plain_tags 7 tt o)
no_scalar (E.ShrOverflow n l) o = absurd (miss plain_tags 8 tt o)

pub no_detail : (e : OperatorError) → OneOf plain_tags (tag_of the_type e) → 0 ≡ detail_of (answer_of (Err e))
no_detail E.Unary o = refl
no_detail E.Binary o = refl
no_detail E.AddOverflow o = refl
no_detail E.SubOverflow o = refl
no_detail E.MulOverflow o = refl
no_detail E.DivByZero o = refl
no_detail E.RemZeroDiv o = refl
no_detail (E.ShlOverflow n l) o = absurd (miss plain_tags 7 tt o)
no_detail (E.ShrOverflow n l) o = absurd (miss plain_tags 8 tt o)

-- a value has no detail
pub value_detail : (s : Scalar) → 0 ≡ detail_of (answer_of (Ok s))
value_detail s = refl
