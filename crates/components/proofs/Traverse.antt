-- The law of the traverse, which every loop over components cites: one component more, or the refusal that ends it. Assumes nothing.
use mathlib.Core.Path.{◌≡◌, refl, sym, ap, ◌∙◌}
use mathlib.Core.List.{List, [], ◌∷◌, ◌++◌, append_assoc}
use mathlib.Core.Logic.{⊎_elim}
use Prim.Native.Nat.{ℕ, zero, suc, ◌+◌, ◌-◌, ◌<◌}
use native.Mathlib.Omega.{arith}
use native.Mathlib.Nat.{eq-or-lt_of_le, le_of_suc-le-suc, not-suc-le-zero}
use native.Mathlib.Numerals.{add-one}
use lib.ListN.{length, get_or, set, replicate, length-append, get_or-append}
use lib.Seq.{set_at, get_or_at}
use Rattle.std.specs.Prelude.{Ok, Err}
use Rattle.value.specs.declared.Refusal.{Refusal}
use Rattle.low.specs.Bytes.{up_to}
use Rattle.components.specs.Components.{Out, and_then, all_or_refusal, padded, each_component}

-- ---- a list with one component more
abbrev next : List ℕ → Out ℕ → Out (List ℕ)
next cs (Ok b) = Ok (cs ++ (b ∷ []))
next cs (Err r) = Err r

cons_next : (b : ℕ) (o : Out (List ℕ)) (q : Out ℕ) → and_then (and_then o (λ cs. next cs q)) (λ cs. Ok (b ∷ cs)) ≡ and_then (and_then o (λ cs. Ok (b ∷ cs))) (λ cs. next cs q)
cons_next b (Ok cs) (Ok z) = refl
cons_next b (Ok cs) (Err r) = refl
cons_next b (Err r) q = refl

through_snoc : (s : List (Out ℕ)) (q : Out ℕ) → all_or_refusal (s ++ (q ∷ [])) ≡ and_then (all_or_refusal s) (λ cs. next cs q)
unfolding all_or_refusal
through_snoc [] (Ok b) = refl
through_snoc [] (Err r) = refl
through_snoc (Ok b ∷ s) q = rw (through_snoc s q) (cons_next b (all_or_refusal s) q)
through_snoc (Err r ∷ s) q = refl

-- as many components as steps
abbrev Long : ℕ → Out (List ℕ) → Type 0
Long n (Ok cs) = length cs ≡ n
Long n (Err r) = n ≡ n

next_long : (n : ℕ) (o : Out (List ℕ)) (q : Out ℕ) → Long n o → Long (suc n) (and_then o (λ cs. next cs q))
next_long n (Ok cs) (Ok b) h = omega (arith, length-append cs (b ∷ []))
next_long n (Ok cs) (Err r) h = refl
next_long n (Err r) q h = refl

pub long : (f : ℕ → Out ℕ) (n : ℕ) → Long n (all_or_refusal (up_to f n))
unfolding up_to all_or_refusal
long f zero = refl
long f (suc n) = rw (through_snoc (up_to f n) (f n)) (next_long n (all_or_refusal (up_to f n)) (f n) (long f n))

-- ---- the same in sixteen places, unused ones 0
abbrev pub put_at : List ℕ → ℕ → Out ℕ → Out (List ℕ)
put_at cs i (Ok b) = Ok (set cs i b)
put_at cs i (Err r) = Err r

fill_next : (n : ℕ) (o : Out (List ℕ)) (q : Out ℕ) → n < 16 → Long n o → padded (and_then o (λ cs. next cs q)) ≡ and_then (padded o) (λ cs. put_at cs n q)
fill_next n (Ok cs) (Ok b) h k =
    let e : 16 - length cs ≡ suc (16 - suc n) = omega arith in
    let e' : 16 - length (cs ++ (b ∷ [])) ≡ 16 - suc n = omega (arith, length-append cs (b ∷ [])) in
    ap Ok (sym (rw (e, e', append_assoc) (set_at cs 0 (replicate (16 - suc n) 0) b n k)))
fill_next n (Ok cs) (Err r) h k = refl
fill_next n (Err r) q h k = refl

module _ (f : ℕ → Out ℕ) where
  pub each_step : (n : ℕ) → n < 16 → each_component f (suc n) ≡ and_then (each_component f n) (λ cs. put_at cs n (f n))
  unfolding up_to
  each_step n h = ap padded (through_snoc (up_to f n) (f n)) ∙ fill_next n (all_or_refusal (up_to f n)) (f n) h (long f n)

  -- one component more
  pub each_more : (i : ℕ) (cs : List ℕ) (b : ℕ) → i < 16 → each_component f i ≡ Ok cs → f i ≡ Ok b → each_component f (i + 1) ≡ Ok (set cs i b)
  each_more i cs b h e q = rw (add-one i) (each_step i h ∙ rw (e, q))

  stays : (i k : ℕ) (r : Refusal) → all_or_refusal (up_to f i) ≡ Err r → all_or_refusal (up_to f (i + k)) ≡ Err r
  unfolding up_to
  stays i zero r e =
      let h : i + 0 ≡ i = omega arith in
      rw h e
  stays i (suc k) r e =
      let h : i + suc k ≡ suc (i + k) = omega arith in
      rw (h, through_snoc (up_to f (i + k)) (f (i + k)), stays i k r e)

  stop_at : (i : ℕ) (cs : List ℕ) (r : Refusal) (o : Out (List ℕ)) → padded o ≡ Ok cs → f i ≡ Err r → and_then o (λ ds. next ds (f i)) ≡ Err r
  stop_at i cs r (Ok ds) e q = rw q
  stop_at i cs r (Err s) e q = let z : ◌≡◌ {A = ℕ} 0 1 = cc in absurd (omega arith)

  -- a refused component ends the work
  pub each_stop : (i m : ℕ) (cs : List ℕ) (r : Refusal) → i < m → each_component f i ≡ Ok cs → f i ≡ Err r → each_component f m ≡ Err r
  unfolding up_to
  each_stop i m cs r h e q =
      let s : all_or_refusal (up_to f (suc i)) ≡ Err r = through_snoc (up_to f i) (f i) ∙ stop_at i cs r (all_or_refusal (up_to f i)) e q in
      let g : suc i + (m - suc i) ≡ m = omega arith in
      ap padded (rw g at (stays (suc i) (m - suc i) r s))

-- ---- components that are the same one by one
up_same : {A : Type 0} (f g : ℕ → A) (n : ℕ) → ((i : ℕ) → i < n → f i ≡ g i) → up_to f n ≡ up_to g n
unfolding up_to
up_same f g zero h = refl
up_same f g (suc n) h = rw (up_same f g n (λ i z. h i (omega arith)), h n (omega arith))

pub each_same : (f g : ℕ → Out ℕ) (n : ℕ) → ((i : ℕ) → i < n → f i ≡ g i) → each_component f n ≡ each_component g n
each_same f g n h = ap (λ (s : List (Out ℕ)). padded (all_or_refusal s)) (up_same f g n h)

-- ---- components of which none refuses
module _ (g : ℕ → ℕ) where
  through_got : (n : ℕ) → all_or_refusal (up_to (λ i. Ok (g i)) n) ≡ Ok (up_to g n)
  unfolding up_to all_or_refusal
  through_got zero = refl
  through_got (suc n) = through_snoc (up_to (λ i. Ok (g i)) n) (Ok (g n)) ∙ ap (λ (o : Out (List ℕ)). and_then o (λ cs. next cs (Ok (g n)))) (through_got n)

  up_long : (n : ℕ) → length (up_to g n) ≡ n
  unfolding up_to
  up_long zero = refl
  up_long (suc n) = omega (arith, length-append (up_to g n) (g n ∷ []), up_long n)

  up_at : (n i : ℕ) → i < n → get_or (up_to g n) i 0 ≡ g i
  unfolding up_to
  up_at zero i h = absurd (not-suc-le-zero h)
  up_at (suc n) i h =
      ⊎_elim
      (λ (e : i ≡ n). rw e (get_or_at (up_to g n) (g n) [] 0 n (up_long n)))
      (λ (l : i < n). get_or-append (up_to g n) (g n ∷ []) 0 i (omega (arith, up_long n)) ∙ up_at n i l)
      (eq-or-lt_of_le (le_of_suc-le-suc h))

  -- all of them, unused ones 0: what is worked out, each at its place
  abbrev pub all_of : ℕ → List ℕ
  all_of n = up_to g n ++ replicate (16 - length (up_to g n)) 0

  pub each_got : (f : ℕ → Out ℕ) (n : ℕ) → ((i : ℕ) → i < n → f i ≡ Ok (g i)) → each_component f n ≡ Ok (all_of n)
  each_got f n h = each_same f (λ i. Ok (g i)) n h ∙ ap padded (through_got n)

  pub all_at : (n i : ℕ) → i < n → get_or (all_of n) i 0 ≡ g i
  all_at n i h = get_or-append (up_to g n) (replicate (16 - length (up_to g n)) 0) 0 i (omega (arith, up_long n)) ∙ up_at n i h
