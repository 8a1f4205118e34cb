-- The common type, as the tests of the code leave it, and what follows of it. Assumes nothing.
use Prim.Native.Nat.{ℕ}
use mathlib.Core.Path.{◌≡◌, refl, sym, ap, ◌∙◌}
use mathlib.Core.Bool.{Bool, true, false, not, ◌&&◌, ◌||◌, and-false, or-false, true≢false}
use lib.Dec.{eqb}
use Rattle.std.specs.Prelude.{Option, Some, None}
use Rattle.types.specs.declared.TypeClass.{TypeClass}
use Rattle.types.specs.declared.TypeClass.TheVariants.{Truth, Signed, Unsigned, Float}
use Rattle.types.specs.Types.{signed_ints, floats, known_of, abstract_of, class_of, float_of, integer_of, goes_to, common_type}
use Rattle.types.proofs.Choice.{picked, passed}
use Rattle.low.proofs.Tests.{both}
use Rattle.types.proofs.Rows.{by_code}

module _ (a b : ℕ) {g : Bool} (e : g ≡ goes_to b a) where
  same_test : {t : Bool} → ((known_of a && eqb a b) || g) ≡ t → ((known_of a && eqb a b) || goes_to b a) ≡ t
  same_test q = ap (λ (g : Bool). (known_of a && eqb a b) || g) (sym e) ∙ q

  pub to_left : ((known_of a && eqb a b) || g) ≡ true → Some a ≡ common_type a b
  unfolding common_type
  to_left q = picked _ _ (same_test q)

  pub to_right : {h : Bool} → ((known_of a && eqb a b) || g) ≡ false → h ≡ goes_to a b → h ≡ true → Some b ≡ common_type a b
  unfolding common_type
  to_right q f p = picked _ _ (sym f ∙ p) ∙ passed _ _ (same_test q)

  pub to_none : {h : Bool} → ((known_of a && eqb a b) || g) ≡ false → h ≡ goes_to a b → h ≡ false → None ≡ common_type a b
  unfolding common_type
  to_none q f p = passed _ _ (sym f ∙ p) ∙ passed _ _ (same_test q)

-- ---- known types go to known ones, and floats to floats
module _ (a b : ℕ) (e : goes_to a b ≡ true) where
  parts : ((abstract_of a && not (eqb a b)) ≡ true) × ((float_of b || (signed_ints (class_of a) && integer_of b)) ≡ true)
  parts = both (abstract_of a && not (eqb a b)) _ e

pub goes_known : (a b : ℕ) → goes_to a b ≡ true → known_of b ≡ true
goes_known a b e =
    by_code (λ b. (float_of b || (signed_ints (class_of a) && integer_of b)) ≡ true → known_of b ≡ true)
    (λ h. refl) (λ h. refl) (λ h. refl) (λ h. refl) (λ h. refl) (λ h. refl) (λ h. refl)
    (λ n h. absurd (true≢false (sym h ∙ and-false (signed_ints (class_of a)))))
    b (parts a b e).1

-- floats are no signed integers
not_signed : (c : Option TypeClass) → floats c ≡ true → signed_ints c ≡ false
not_signed (Some Float) h = refl
not_signed (Some Truth) h = absurd (true≢false (sym h))
not_signed (Some Signed) h = absurd (true≢false (sym h))
not_signed (Some Unsigned) h = absurd (true≢false (sym h))
not_signed None h = absurd (true≢false (sym h))

pub float_goes : (a b : ℕ) → goes_to a b ≡ true → float_of a ≡ true → float_of b ≡ true
float_goes a b e f = sym (or-false (float_of b)) ∙ ap (λ t. float_of b || (t && integer_of b)) (sym (not_signed (class_of a) f)) ∙ (parts a b e).1
