-- Reduction modulo m of sums and products of integers, over the modulus. Assumes nothing.
use Rattle.std.proofs.Common.{◌≡◌, ℕ, zero, suc, ◌+◌, ◌-◌, ◌*◌, ◌/◌, ◌%◌, ◌<◌, ◌≤◌, Bool, true, false, cond, not, T, ltb, ℤ, pos, negsuc, ◌+ℤ◌, ◌*ℤ◌, neg_ℤ, sym, refl, ap, ◌∙◌, subst, ap₂, mod-lt, mod-eq_of_lt, zero-lt-suc, mul_assoc, div-add-mod', arith, ltb→lt, nltb→le}
use native.Mathlib.Nat.{mod-mod, add-mod, mod-add-mod, add-mul-mod_self_right, mul-add-mod_self_right}
use lib.IntN.{sub_ℕ}
use lib.Arith.{digits_mod}
use Rattle.integer.specs.Wrap.{mod_z}

-- a product's remainder
pub mul_mod : (a b m : ℕ) → (a * b) % m ≡ (a % m * (b % m)) % m
mul_mod a b m =
    ap₂ (λ (x y : ℕ). (x * y) % m) (sym (div-add-mod' a m)) (sym (div-add-mod' b m))
    ∙ ap (λ (x : ℕ). x % m) (spread (a / m) (a % m) (b / m) (b % m))
    ∙ mul-add-mod_self_right (a / m * (b / m * m) + a / m * (b % m) + a % m * (b / m)) m (a % m * (b % m))
  where
    spread : (p r q s : ℕ) → (p * m + r) * (q * m + s) ≡ (p * (q * m) + p * s + r * q) * m + r * s
    spread p r q s = omega arith

pub mul_mod_l : (a b m : ℕ) → (a % m * b) % m ≡ (a * b) % m
mul_mod_l a b m = mul_mod (a % m) b m ∙ ap (λ (x : ℕ). (x * (b % m)) % m) (mod-mod a m) ∙ sym (mul_mod a b m)

module _ (k : ℕ) where
  -- a natural number that z is, modulo suc k: -1 is k
  abbrev rep : ℤ → ℕ
  rep (pos n) = n
  rep (negsuc n) = suc n * k

  over_mod : (n : ℕ) → (suc n * k) % suc k ≡ (suc k - 1) - n % suc k
  over_mod n =
      ap (λ (x : ℕ). (suc x * k) % suc k) (sym (div-add-mod' n (suc k)))
      ∙ ap (λ (x : ℕ). x % suc k) (e (n / suc k) (n % suc k) (mod-lt n (zero-lt-suc k)))
      ∙ digits_mod (n / suc k * k + n % suc k) (l (n % suc k))
    where
      l : (r : ℕ) → (suc k - 1) - r < suc k
      l r = omega arith

      e : (q r : ℕ) → r < suc k → suc (q * suc k + r) * k ≡ (q * k + r) * suc k + ((suc k - 1) - r)
      e q r b = omega arith

  -- the definition's remainder is that number's
  mod_z_rep : (z : ℤ) → mod_z (suc k) z ≡ rep z % suc k
  mod_z_rep (pos n) = refl
  mod_z_rep (negsuc n) = sym (over_mod n)

  neg_rep : (n : ℕ) → rep (neg_ℤ (pos n)) ≡ n * k
  neg_rep zero = omega arith
  neg_rep (suc n) = refl

  sub_rep : (a b : ℕ) → rep (sub_ℕ a b) % suc k ≡ (a + b * k) % suc k
  sub_rep a b = go (ltb a b) (ltb→lt a b) (nltb→le a b)
    where
      go : (t : Bool) → (T t → a < b) → (T (not t) → b ≤ a) → rep (cond t (negsuc (b - suc a)) (pos (a - b))) % suc k ≡ (a + b * k) % suc k
      go true y n = sym (ap (λ (x : ℕ). x % suc k) (e (b - suc a) b (r (y tt))) ∙ mul-add-mod_self_right a (suc k) (suc (b - suc a) * k))
        where
          r : a < b → b ≡ a + suc (b - suc a)
          r h = omega arith

          e : (d b : ℕ) → b ≡ a + suc d → a + b * k ≡ a * suc k + suc d * k
          e d b h = rw h (omega arith)
      go false y n = sym (ap (λ (x : ℕ). x % suc k) (e (a - b) a (r (n tt))) ∙ mul-add-mod_self_right b (suc k) (a - b))
        where
          r : b ≤ a → a ≡ b + (a - b)
          r h = omega arith

          e : (d a : ℕ) → a ≡ b + d → a + b * k ≡ b * suc k + d
          e d a h = rw h (omega arith)

  add_rep : (x y : ℤ) → rep (x +ℤ y) % suc k ≡ (rep x + rep y) % suc k
  add_rep (pos a) (pos b) = refl
  add_rep (pos a) (negsuc b) = sub_rep a (suc b)
  add_rep (negsuc a) (pos b) = sub_rep b (suc a) ∙ ap (λ (x : ℕ). x % suc k) (swap (suc a * k))
    where
      swap : (x : ℕ) → b + x ≡ x + b
      swap x = omega arith
  add_rep (negsuc a) (negsuc b) = ap (λ (x : ℕ). x % suc k) e
    where
      e : suc (suc (a + b)) * k ≡ suc a * k + suc b * k
      e = omega arith

  mul_rep : (x y : ℤ) → rep (x *ℤ y) % suc k ≡ (rep x * rep y) % suc k
  mul_rep (pos a) (pos b) = refl
  mul_rep (pos a) (negsuc b) = ap (λ (x : ℕ). x % suc k) (neg_rep (a * suc b) ∙ mul_assoc a (suc b) k)
  mul_rep (negsuc a) (pos b) = ap (λ (x : ℕ). x % suc k) (neg_rep (suc a * b) ∙ e)
    where
      e : suc a * b * k ≡ suc a * k * b
      e = omega arith
  mul_rep (negsuc a) (negsuc b) =
      sym (mul-add-mod_self_right (suc a * suc b * k) (suc k) (suc a * suc b))
      ∙ ap (λ (x : ℕ). x % suc k) (sym (e (suc a) (suc b)))
      ∙ add-mul-mod_self_right (suc a * k * (suc b * k)) (suc a * suc b) (suc k)
    where
      e : (c d : ℕ) → c * k * (d * k) + c * d * suc k ≡ c * d * k * suc k + c * d
      e c d = omega arith

  add' : (x y : ℤ) → mod_z (suc k) (x +ℤ y) ≡ (mod_z (suc k) x + mod_z (suc k) y) % suc k
  add' x y =
      mod_z_rep (x +ℤ y) ∙ add_rep x y ∙ add-mod (rep x) (rep y) (suc k)
      ∙ ap₂ (λ (a b : ℕ). (a + b) % suc k) (sym (mod_z_rep x)) (sym (mod_z_rep y))

  mul' : (x y : ℤ) → mod_z (suc k) (x *ℤ y) ≡ (mod_z (suc k) x * mod_z (suc k) y) % suc k
  mul' x y =
      mod_z_rep (x *ℤ y) ∙ mul_rep x y ∙ mul_mod (rep x) (rep y) (suc k)
      ∙ ap₂ (λ (a b : ℕ). (a * b) % suc k) (sym (mod_z_rep x)) (sym (mod_z_rep y))

module _ (m : ℕ) (h : zero < m) where
  is_suc : suc (m - 1) ≡ m
  is_suc = omega arith

  pub mod_z_add : (x y : ℤ) → mod_z m (x +ℤ y) ≡ (mod_z m x + mod_z m y) % m
  mod_z_add x y = subst (λ (m : ℕ). mod_z m (x +ℤ y) ≡ (mod_z m x + mod_z m y) % m) is_suc (add' (m - 1) x y)

  pub mod_z_mul : (x y : ℤ) → mod_z m (x *ℤ y) ≡ (mod_z m x * mod_z m y) % m
  mod_z_mul x y = subst (λ (m : ℕ). mod_z m (x *ℤ y) ≡ (mod_z m x * mod_z m y) % m) is_suc (mul' (m - 1) x y)

  pub mod_z_lt : (z : ℤ) → mod_z m z < m
  mod_z_lt (pos n) = mod-lt n h
  mod_z_lt (negsuc n) = e (n % m)
    where
      e : (r : ℕ) → (m - 1) - r < m
      e r = omega arith

-- a summand is taken off again
pub cancel : (m r s b : ℕ) → r < m → s < m → (r + b) % m ≡ (s + b) % m → r ≡ s
cancel m r s b l k e =
    sym (mod-eq_of_lt l) ∙ sym (off r) ∙ ap (λ (x : ℕ). (x + (m - b % m)) % m) e ∙ off s ∙ mod-eq_of_lt k
  where
    lt : b % m < m
    lt = mod-lt b (omega arith)

    off : (r : ℕ) → ((r + b) % m + (m - b % m)) % m ≡ r % m
    off r =
        mod-add-mod (r + b) m (m - b % m)
        ∙ ap (λ (x : ℕ). x % m) (f (b / m) (b % m) b lt (div-add-mod' b m))
        ∙ add-mul-mod_self_right r (suc (b / m)) m
      where
        f : (q t b : ℕ) → t < m → q * m + t ≡ b → r + b + (m - t) ≡ r + suc q * m
        f q t b h e = omega arith
