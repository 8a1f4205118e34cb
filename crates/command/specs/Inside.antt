-- What the private functions tell. No public contract cites it.
use Rattle.std.specs.Prelude.{ℕ, ◌+◌, ◌-◌, ◌≡◌, List, length, take}
use Rattle.low.specs.Bytes.{patch}
use Rattle.command.specs.declared.show.Show.{Show}

-- as much of a text as a buffer has room for from a place on
unfoldable pub fitting : List ℕ → ℕ → List ℕ → List ℕ
fitting l a t = take (length l - a) t

-- m is l with as much of the text t from place a on as there is room for, and b is the place after the whole of it
pub record Shows (l m : List ℕ) (a b : ℕ) (t : List ℕ) : Type 0 where
  pub text : m ≡ patch l a (fitting l a t)
  pub next : b ≡ a + length t

-- from p to q the text t was shown, in the same lent buffer
pub record Adds (p q : Show) (t : List ℕ) : Type 0 where
  pub same : q.out.ghost_name ≡ p.out.ghost_name
  pub shows : Shows p.out.now q.out.now p.at q.at t
