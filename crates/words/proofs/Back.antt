-- What is stored in one word loads again.
use Prim.Native.Nat.{ℕ, ◌^◌, ◌<◌}
use mathlib.Core.Path.{◌≡◌, refl, sym, ◌∙◌}
use mathlib.Core.Bool.{Bool, true, false, true≢false}
use native.Mathlib.Omega.{arith}
use lib.Dec.{T, ltb, eqb}
use lib.Ieee.{Float, nan, inf, fin, Format, binary32, binary64, is_nan, nan_bits, of_bits, to_bits}
use lib.Ieee as Ieee
use lib.Ieee.Bits.{of_bits-to_bits, to_bits-lt, nan_bits_is}
use borrow.Author.Tests.{lt-ltb, ltb-true}
use Rattle.answers.specs.Pick.{pick, pick_true, pick_case}
use Rattle.std.specs.Int.{from_bool}
use Rattle.words.specs.Words.{half, all_below, pattern_of, flag_of}

pub half_small : (w other : ℕ) → w < 2 ^ 32 → half w other ≡ w
unfolding half
half_small w other h = pick_true _ _ _ (lt-ltb _ _ h)

pub half_lt : (w : ℕ) → half w 0 < 2 ^ 32
unfolding half
half_lt w = pick_case (λ (n : ℕ). n < 2 ^ 32) (ltb w (2 ^ 32)) w 0 (λ e. ltb-true w (2 ^ 32) e) (λ e. omega arith)

is_nan_lem : (x : Float) → is_nan x ≡ true → x ≡ nan
unfolding is_nan
is_nan_lem nan e = refl
is_nan_lem (inf s) e = absurd (true≢false (sym e))
is_nan_lem (fin s m x) e = absurd (true≢false (sym e))

nan_fits : (f : Format) → T (Ieee.fits f nan)
unfolding Ieee.fits
nan_fits binary32 = tt
nan_fits binary64 = tt

nan_reads : (f : Format) (old : ℕ) → of_bits f (pick (nan_bits f old) old (to_bits f nan)) ≡ nan
nan_reads f old =
    pick_case (λ (w : ℕ). of_bits f w ≡ nan) (nan_bits f old) old (to_bits f nan)
    (λ e. is_nan_lem (of_bits f old) (sym (nan_bits_is f old) ∙ e))
    (λ e. of_bits-to_bits f nan (nan_fits f))

-- a float reads back, whatever stood there
pub reads : (f : Format) (old : ℕ) (x : Float) → T (Ieee.fits f x) → of_bits f (pattern_of f old x) ≡ x
unfolding pattern_of
reads f old x h =
    pick_case (λ (w : ℕ). of_bits f w ≡ x) (is_nan x) _ _
    (λ e. nan_reads f old ∙ sym (is_nan_lem x e))
    (λ e. of_bits-to_bits f x h)

-- where nothing stands that is kept, the pattern is the float's own
pub alone : (f : Format) (x : Float) → pattern_of f 0 x ≡ to_bits f x
unfolding pattern_of pick is_nan nan_bits
alone binary32 nan = refl
alone binary64 nan = refl
alone f (inf s) = refl
alone f (fin s m e) = refl

pub pattern_lt : (old : ℕ) (x : Float) → old < 2 ^ 32 → T (Ieee.fits binary32 x) → pattern_of binary32 old x < 2 ^ 32
unfolding pattern_of
pattern_lt old x o h =
    pick_case (λ (w : ℕ). w < 2 ^ 32) (is_nan x) _ _
    (λ e. pick_case (λ (w : ℕ). w < 2 ^ 32) (nan_bits binary32 old) _ _ (λ q. o) (λ q. to_bits-lt binary32 nan (nan_fits binary32)))
    (λ e. to_bits-lt binary32 x h)

pub flagged : (b : Bool) → from_bool b ≡ flag_of b
unfolding pick
flagged true = refl
flagged false = refl

pub flag_reads : (b : Bool) → eqb (flag_of b) 1 ≡ b
unfolding pick
flag_reads true = refl
flag_reads false = refl

pub flag_case : (b : Bool) → ltb (flag_of b) 2 ≡ true
unfolding pick
flag_case true = refl
flag_case false = refl

pub all_below_lem : (limit a b c : ℕ) → ltb a limit ≡ true → ltb b limit ≡ true → ltb c limit ≡ true → all_below limit a b c ≡ true
unfolding all_below
all_below_lem limit a b c p q r = pick_true _ _ _ p ∙ pick_true _ _ _ q ∙ r
