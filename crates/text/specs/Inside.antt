-- What the private functions tell. No public contract cites it.
use Rattle.std.specs.Prelude.{ℕ, ◌≡◌, List, length}
use Rattle.text.specs.declared.put.Text.{Text}
use Rattle.text.specs.Text.{Put}

-- from p to q the text t was put, into the same lent buffer
pub record Puts (p q : Text) (t : List ℕ) : Type 0 where
  pub same : q.out.ghost_name ≡ p.out.ghost_name
  pub long : length q.out.now ≡ length p.out.now
  pub put : Put p.out.now q.out.now p.at q.at t
