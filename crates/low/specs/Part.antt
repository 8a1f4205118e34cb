-- A part of a slice that is handed back: its bytes and where it stands.
use Rattle.std.specs.Prelude.{ℕ, ◌+◌, min, ◌≡◌, List, length}
use Rattle.std.specs.Borrow.{Bor}
use Rattle.low.specs.Bytes.{part}

-- r is the part of s that starts at place a and has n bytes, or as many of them as there are: these bytes, in the block of s, at that place
-- (at the end of s where a is past it)
pub record PartOf (s : Bor (List ℕ)) (a n : ℕ) (r : Bor (List ℕ)) : Type 0 where
  pub bytes : r.now ≡ part s.now a n
  pub block : r.ref_ptr.0 ≡ s.ref_ptr.0
  pub place : r.ref_ptr.1 ≡ s.ref_ptr.1 + min a (length s.now)
