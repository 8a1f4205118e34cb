-- Texts put one after another.
use mathlib.Core.Path.{◌≡◌, refl, ap, ◌∙◌}
use mathlib.Core.List.{List, [], ◌++◌}
use Prim.Native.Nat.{ℕ, ◌+◌, ◌≤◌}
use native.Mathlib.Omega.{arith}
use lib.ListN.{length, length-append}
use Rattle.low.specs.Bytes.{patch}
use Rattle.low.proofs.Parts.{patch_none, patch_next}
use Rattle.text.specs.declared.put.Text.{Text}
use Rattle.text.specs.Text.{Put}
use Rattle.text.specs.Inside.{Puts}

-- one text after another
pub then : {l m n x y : List ℕ} {a b c : ℕ} → Put l m a b x → Put m n b c y → c ≤ length l → Put l n a c (x ++ y)
then {l} {m} {n} {x} {y} {a} {b} {c} p q h =
    let e : length (x ++ y) ≡ length x + length y = length-append x y in
    record {
      text = q.text ∙ ap (λ (k : List ℕ). patch k b y) p.text ∙ patch_next l a x b y p.next (omega (arith, q.next));
      next = omega (arith, p.next, q.next);
    }

-- no text
pub no_text : (l : List ℕ) (a : ℕ) → Put l l a a []
no_text l a = record { text = patch_none l a; next = omega arith }

-- the same of what is put into one lent buffer
pub after : {p q r : Text} {x y : List ℕ} → Puts p q x → Puts q r y → r.at ≤ length p.out.now → Puts p r (x ++ y)
after a b h = record { same = b.same ∙ a.same; long = b.long ∙ a.long; put = then a.put b.put h }

pub nothing_put : (p : Text) → Puts p p []
nothing_put p = record { same = refl; long = refl; put = no_text p.out.now p.at }
