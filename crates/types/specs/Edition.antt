-- The edition of a sheet: which types it has. Assumes nothing.
use Rattle.std.specs.Prelude.{ℕ, Bool, ltb}

-- the editions; a sheet without a word on its edition is a plain one
pub data Edition : Type 0 where
  plain : Edition

-- whether a type is one of the edition's: the plain one has types 0 to 6
abbrev pub in_edition : Edition → ℕ → Bool
in_edition plain ty = ltb ty 7
