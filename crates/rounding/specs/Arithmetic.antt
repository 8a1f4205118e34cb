-- 01, Operators: a float `+ - * /` is the exact result rounded once, which `Rounded.antt` puts into words; `%` is exact, which `proofs/Remainder.antt` shows.
-- Clause by clause these are the operators of the language's own `lib.Ieee`, which has F32 and F64, over any kind; `proofs/Same.antt` shows it for the two.
-- `neg`, `==`, `!=`, `<` and `<=` know no kind, and are `lib.Ieee`'s themselves. Assumes nothing.
use Rattle.std.specs.Prelude.{ℕ, ◌+◌, ◌-◌, ◌*◌, ◌%◌, Bool, cond, ◌&&◌, pos, ◌==◌, nat_lt, Float}
use Rattle.std.specs.Bool.{beq}
use Rattle.std.specs.Float.{nan, inf, fin}
use Rattle.std.specs.Float.Ieee.{up, down, unlike, neg}
use Rattle.rounding.specs.Kind.{Kind, round_to}

-- ±a / c plus ±b / c; an exact cancellation is +0
unfoldable pub sum : Kind → Bool → ℕ → Bool → ℕ → ℕ → Float
unfolding round_to
sum k s a t b c = cond (beq s t) (round_to k s (a + b) c) (cond (nat_lt a b) (round_to k t (b - a) c) (round_to k (s && nat_lt b a) (a - b) c))

unfoldable pub add : Kind → Float → Float → Float
unfolding sum
add k nan y = nan
add k (inf s) nan = nan
add k (inf s) (inf t) = cond (beq s t) (inf s) nan
add k (inf s) (fin t n d) = inf s
add k (fin s m e) nan = nan
add k (fin s m e) (inf t) = inf t
add k (fin s m e) (fin t n d) = sum k s (m * up e * down d) t (n * up d * down e) (down e * down d)

unfoldable pub sub : Kind → Float → Float → Float
unfolding add neg
sub k x y = add k x (neg y)

unfoldable pub mul : Kind → Float → Float → Float
unfolding round_to
mul k nan y = nan
mul k (inf s) nan = nan
mul k (inf s) (inf t) = inf (unlike s t)
mul k (inf s) (fin t n d) = cond (n == 0) nan (inf (unlike s t))
mul k (fin s m e) nan = nan
mul k (fin s m e) (inf t) = cond (m == 0) nan (inf (unlike s t))
mul k (fin s m e) (fin t n d) = round_to k (unlike s t) (m * up e * (n * up d)) (down e * down d)

unfoldable pub div : Kind → Float → Float → Float
unfolding round_to
div k nan y = nan
div k (inf s) nan = nan
div k (inf s) (inf t) = nan
div k (inf s) (fin t n d) = inf (unlike s t)
div k (fin s m e) nan = nan
div k (fin s m e) (inf t) = fin (unlike s t) 0 (pos 0)
div k (fin s m e) (fin t n d) =
    cond (n == 0) (cond (m == 0) nan (inf (unlike s t))) (round_to k (unlike s t) (m * up e * down d) (n * up d * down e))

-- the truncated remainder, with the left sign: a finite left by an infinity is the left, an infinite left or a zero divisor NaN
unfoldable pub rem : Kind → Float → Float → Float
unfolding round_to
rem k nan y = nan
rem k (inf s) y = nan
rem k (fin s m e) nan = nan
rem k (fin s m e) (inf t) = fin s m e
rem k (fin s m e) (fin t n d) = cond (n == 0) nan (round_to k s (m * up e * down d % (n * up d * down e)) (down e * down d))
