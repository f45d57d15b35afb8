-- A pattern with its sign clear reads as the absolute value of what the pattern reads as, and is the pattern that the absolute value has.
use Prim.Native.Nat.{ℕ, ◌*◌, ◌%◌, ◌^◌, ◌<◌}
use mathlib.Core.Path.{◌≡◌, refl, sym, ap, ◌∙◌, subst}
use mathlib.Core.Bool.{Bool, true, false, not, true≢false}
use native.Mathlib.Omega.{arith}
use lib.Dec.{T, ltb}
use lib.Ieee.{Float, nan, inf, fin, binary64, is_nan, of_bits, to_bits, ones, hid}
use lib.Ieee.Bits.{of_bits-fits, to_bits-of_bits, nan_bits_is, nan_bits_above}
use Rattle.answers.specs.Pick.{pick_true, pick_false}
use Rattle.words.specs.Words.{pattern_of}
use Rattle.floats.specs.Functions.{magnitude}
use Rattle.floats.proofs.Finite.{unsigned}
use Rattle.floats_face.specs.Calls.{magnitude_bits}

is_nan_lem : (x : Float) → is_nan x ≡ true → x ≡ nan
unfolding is_nan
is_nan_lem nan e = refl
is_nan_lem (inf s) e = absurd (true≢false (sym e))
is_nan_lem (fin s m x) e = absurd (true≢false (sym e))

nan_stays : magnitude nan ≡ nan
unfolding magnitude
nan_stays = refl

nan_is : is_nan nan ≡ true
unfolding is_nan
nan_is = refl

-- the sign says nothing of whether it is a NaN's
same_kind : (b : ℕ) → is_nan (of_bits binary64 (b % 2 ^ 63)) ≡ is_nan (of_bits binary64 b)
same_kind b =
    let once : b % 2 ^ 63 % 2 ^ 63 ≡ b % 2 ^ 63 = omega arith in
    sym (nan_bits_is binary64 (b % 2 ^ 63))
    ∙ nan_bits_above binary64 (b % 2 ^ 63)
    ∙ ap (λ (n : ℕ). ltb (ones binary64 * hid binary64) n) once
    ∙ sym (nan_bits_above binary64 b)
    ∙ nan_bits_is binary64 b

module _ (b : ℕ) (h : b < 2 ^ 64) where
  number_reads : is_nan (of_bits binary64 b) ≡ false → of_bits binary64 (b % 2 ^ 63) ≡ magnitude (of_bits binary64 b)
  number_reads e =
      subst (λ (n : ℕ). of_bits binary64 (n % 2 ^ 63) ≡ magnitude (of_bits binary64 b))
      (to_bits-of_bits binary64 b h (subst (λ (t : Bool). T (not t)) (sym e) tt))
      (unsigned (of_bits binary64 b) (of_bits-fits binary64 b))

  nan_reads : is_nan (of_bits binary64 b) ≡ true → of_bits binary64 (b % 2 ^ 63) ≡ magnitude (of_bits binary64 b)
  nan_reads e = is_nan_lem (of_bits binary64 (b % 2 ^ 63)) (same_kind b ∙ e) ∙ sym nan_stays ∙ ap magnitude (sym (is_nan_lem (of_bits binary64 b) e))

  reads : (t : Bool) → is_nan (of_bits binary64 b) ≡ t → of_bits binary64 (b % 2 ^ 63) ≡ magnitude (of_bits binary64 b)
  reads true e = nan_reads e
  reads false e = number_reads e

  pub magnitude_reads : of_bits binary64 (magnitude_bits b) ≡ magnitude (of_bits binary64 b)
  magnitude_reads = reads (is_nan (of_bits binary64 b)) refl

  kind : is_nan (magnitude (of_bits binary64 b)) ≡ is_nan (of_bits binary64 b)
  kind = ap is_nan (sym magnitude_reads) ∙ same_kind b

  written : (t : Bool) → is_nan (of_bits binary64 b) ≡ t → pattern_of binary64 (b % 2 ^ 63) (magnitude (of_bits binary64 b)) ≡ b % 2 ^ 63
  unfolding pattern_of
  written true e = pick_true _ _ _ (kind ∙ e) ∙ pick_true _ _ _ (nan_bits_is binary64 (b % 2 ^ 63) ∙ same_kind b ∙ e)
  written false e =
      let small : b % 2 ^ 63 < 2 ^ 64 = omega arith in
      pick_false _ _ _ (kind ∙ e)
      ∙ ap (to_bits binary64) (sym magnitude_reads)
      ∙ to_bits-of_bits binary64 (b % 2 ^ 63) small (subst (λ (t : Bool). T (not t)) (sym (same_kind b ∙ e)) tt)

  pub sign_clears : pattern_of binary64 (b % 2 ^ 63) (magnitude (of_bits binary64 b)) ≡ magnitude_bits b
  sign_clears = written (is_nan (of_bits binary64 b)) refl
