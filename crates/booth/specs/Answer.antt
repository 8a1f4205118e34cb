-- What an exported function answers.
use Rattle.std.specs.Prelude.{ℕ, ◌+◌, ◌*◌, ◌/◌, ◌%◌, Result, Ok, Err}
use Rattle.low.specs.declared.Refused.{Refused}

-- the number in bits 32 to 39, the detail in bits 0 to 31
abbrev pub packed_answer : ℕ → ℕ → ℕ
packed_answer number detail = number * 4294967296 + detail % 4294967296

-- what a caller reads from an answer: its bits 32 to 39, and its bits 0 to 31
abbrev pub number_in : ℕ → ℕ
number_in answer = answer / 4294967296 % 256

abbrev pub detail_in : ℕ → ℕ
detail_in answer = answer % 4294967296

-- success has the number 0
abbrev pub packed_fold : Result ℕ Refused → ℕ
packed_fold (Ok n) = packed_answer 0 n
packed_fold (Err r) = packed_answer r.number r.place
