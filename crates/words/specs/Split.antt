-- The words of a line, each ended by a byte 0.
use Rattle.std.specs.Prelude.{ℕ, zero, suc, ◌+◌, min, ◌≡◌, cond, List, [], ◌∷◌, eqb, length}
use Rattle.std.specs.Borrow.{Bor}
use Rattle.low.specs.Part.{PartOf}

-- the bytes before the first that ends a part
unfoldable pub before : ℕ → List ℕ → List ℕ
before end [] = []
before end (c ∷ cs) = cond (eqb c end) [] (c ∷ before end cs)

-- the bytes after the first 0
unfoldable pub behind : List ℕ → List ℕ
behind [] = []
behind (c ∷ cs) = cond (eqb c 0) cs (behind cs)

-- word k, counted from 0
unfoldable pub word_at : ℕ → List ℕ → List ℕ
word_at zero s = before 0 s
word_at (suc k) s = word_at k (behind s)

-- where the next word starts: after the first 0, or at the end where there is none
unfoldable pub next_place : List ℕ → ℕ
next_place s = min (length (before 0 s) + 1) (length s)

-- where word k starts, word 0 at 0
unfoldable pub word_place : ℕ → List ℕ → ℕ
word_place zero s = 0
word_place (suc k) s = next_place s + word_place k (behind s)

-- r is word k of s: its bytes, as the part of s that starts where the word does
pub record WordOf (s : Bor (List ℕ)) (k : ℕ) (r : Bor (List ℕ)) : Type 0 where
  pub bytes : r.now ≡ word_at k s.now
  pub part : PartOf s (word_place k s.now) (length (word_at k s.now)) r

-- how many words there are
unfoldable pub word_count : List ℕ → ℕ
word_count [] = 0
word_count (c ∷ cs) = cond (eqb c 0) 1 0 + word_count cs
