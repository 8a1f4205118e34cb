-- What reading bytes from a place on answers: a thing and the place after it, or a refusal's number and its byte place.
use Rattle.std.specs.Prelude.{ℕ, ◌+◌, Bool, true, false, List, length, leb, Result, Ok, Err}
use Rattle.low.specs.declared.Refused.{Refused}

pub data Read (A : Type 0) : Type 0 where
  found : A → ℕ → Read A
  refused : ℕ → ℕ → Read A

-- a check: the refusal where the test fails, else what follows
unfoldable pub must : {A : Type 0} → Bool → A → A → A
must true refusal then = then
must false refusal then = refusal

-- what follows a thing that was read goes on from the place after it
unfoldable pub then_read : {A B : Type 0} → Read A → (A → ℕ → Read B) → Read B
then_read (found a n) next = next a n
then_read (refused k p) next = refused k p

-- the thing that was read, made into another
unfoldable pub read_as : {A B : Type 0} → (A → B) → Read A → Read B
read_as f (found a n) = found (f a) n
read_as f (refused k p) = refused k p

-- places counted from the first byte of a part that starts here
unfoldable pub placed_from : {A : Type 0} → ℕ → Read A → Read A
placed_from start (found a n) = found a (start + n)
placed_from start (refused k p) = refused k (start + p)

-- so many bytes are there from a place on
abbrev pub there : List ℕ → ℕ → ℕ → Bool
there b at n = leb (at + n) (length b)

-- a refusal, as the code answers it
abbrev pub refusal : {A : Type 0} → ℕ → ℕ → Result A Refused
refusal k p = Err (record { number = k; place = p })

-- an answer without the thing that was read
abbrev pub seen_of : {A : Type 0} → Read A → Result ℕ Refused
seen_of (found a n) = Ok n
seen_of (refused k p) = refusal k p
