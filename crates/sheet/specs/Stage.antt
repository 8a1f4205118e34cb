-- The stage byte of a record: 0, 1, 2, or 3 for a setting. Nothing else says what a stage byte means.
use Rattle.std.specs.Prelude.{ℕ, Bool, leb, eqb}
use Rattle.value.specs.Pattern.{pick}
use Rattle.sheet.specs.declared.Kind.{Kind}
use Rattle.sheet.specs.declared.Kind.TheVariants.{Setting, Expression}

abbrev pub stage_known : ℕ → Bool
stage_known stage = leb stage 3

-- what the entry is
unfoldable pub kind_of : ℕ → Kind
kind_of stage = pick (eqb stage 3) Setting Expression

-- the stage that it counts as: a setting as 1
unfoldable pub counts_as : Kind → ℕ → ℕ
counts_as Setting stage = 1
counts_as Expression stage = stage
