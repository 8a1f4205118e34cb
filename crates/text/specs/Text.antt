-- What a listing says (01, The sheet: the two listings of the example), as bytes.
use Rattle.std.specs.Prelude.{◌≡◌, Bool, true, false, cond, not, ◌&&◌, List, [], ◌∷◌, ◌++◌, ℕ, zero, suc, ◌+◌, ◌*◌, ◌/◌, ◌%◌, min, ltb, eqb, length, take, get_or}
use Prim.Native.Char.{code}
use Prim.Native.String.{String, [] as none, ◌∷◌ as ◌before◌}
use Rattle.io.specs.Digits.{last_digits}
use Rattle.operand.specs.declared.Outcome.{Outcome}
use Rattle.low.specs.Bytes.{patch}
use Rattle.types.specs.Edition.{plain}
use Rattle.slot.specs.Slot.{slot, said_by, well_formed}

-- a text as bytes, one for each character
abbrev pub ascii : String → List ℕ
ascii none = []
ascii (c before s) = code c ∷ ascii s

-- the decimal digits of n, of which there are at most f + 1
unfoldable pub decimals : ℕ → ℕ → List ℕ
decimals zero n = (48 + n) ∷ []
decimals (suc f) n = cond (ltb n 10) ((48 + n) ∷ []) (decimals f (n / 10) ++ ((48 + n % 10) ∷ []))

-- the decimal digits of a number of at most 64 bits
unfoldable pub dec : ℕ → List ℕ
dec n = decimals 19 n

-- the 16 hexadecimal digits of a number of 64 bits
unfoldable pub hex : ℕ → List ℕ
hex x = last_digits 16 16 x

-- the one or the other
abbrev pub digits_of : Bool → ℕ → List ℕ
digits_of true = hex
digits_of false = dec

-- each number after a space
unfoldable pub spaced : (ℕ → List ℕ) → List ℕ → List ℕ
spaced f [] = []
spaced f (x ∷ xs) = (32 ∷ f x) ++ spaced f xs

-- numbers in decimal; components in hexadecimal digits
abbrev pub fields : List ℕ → List ℕ
fields = spaced dec

abbrev pub words : List ℕ → List ℕ
words = spaced hex

-- the components in use, where a slot is well formed: those of a value, and the operand that a shift's refusal carries
unfoldable pub shown : Outcome → Bool → List ℕ
shown o formed = cond formed (words (take (o.value.cols * o.value.rows) o.value.comps)) []

-- an entry's line: number, status, type, columns, rows, detail, components in use last, a line feed
unfoldable pub line : ℕ → Outcome → Bool → List ℕ
line k o formed =
    dec k ++ fields (o.status ∷ o.value.ty ∷ o.value.cols ∷ o.value.rows ∷ o.detail ∷ []) ++ shown o formed ++ (10 ∷ [])

-- the lines of the first n entries
unfoldable pub lines : List ℕ → ℕ → List ℕ
lines b zero = []
lines b (suc n) = lines b n ++ line n (said_by (slot b n)) (well_formed plain (slot b n))

-- 136 bytes an entry, at most 128 entries
unfoldable pub entries : List ℕ → ℕ
entries b = min (length b / 136) 128

-- "sheet", the number of entries and their lines
unfoldable pub listing : List ℕ → List ℕ
listing b = ascii "sheet " ++ dec (entries b) ++ (10 ∷ []) ++ lines b (entries b)

-- "refused" and the number
unfoldable pub refusal_line : ℕ → List ℕ
refusal_line n = ascii "refused " ++ dec n ++ (10 ∷ [])

-- entry k, where it is marked and not the setting's own
unfoldable pub mover : List Bool → ℕ → ℕ → List ℕ
mover marks own k = cond (get_or marks k false && not (eqb k own)) (k ∷ []) []

-- the entries of the first n that moved, in rising order
unfoldable pub movers : List Bool → ℕ → ℕ → List ℕ
movers marks own zero = []
movers marks own (suc n) = movers marks own n ++ mover marks own n

-- "moved", how many entries depend on the setting, and which they are
unfoldable pub moved_line : ℕ → List Bool → ℕ → List ℕ
moved_line n marks own = ascii "moved " ++ dec n ++ fields (movers marks own 128) ++ (10 ∷ [])

-- m is l with the text t at place a, and b is the place after t
pub record Put (l m : List ℕ) (a b : ℕ) (t : List ℕ) : Type 0 where
  pub text : m ≡ patch l a t
  pub next : b ≡ a + length t
