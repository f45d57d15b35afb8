-- What is stored of a float, for either format.
use mathlib.Core.Path.{◌≡◌, sym, ap, ◌∙◌}
use mathlib.Core.Bool.{true, false}
use Prim.Native.Nat.{ℕ, ◌%◌, ◌*◌, ◌<◌, ◌≤◌}
use lib.Ieee.{Float, Format, is_nan, to_bits, top, ones, hid}
use Rattle.answers.specs.Pick.{pick_true, pick_false}
use Rattle.floats.proofs.Readback.{is_nan_lem, above, below}
use Rattle.words.specs.Words.{pattern_of}

module _ (f : Format) (old : ℕ) (x : Float) where
  pub stays : is_nan x ≡ true → ones f * hid f < old % top f → old ≡ pattern_of f old x
  unfolding pattern_of
  stays n h = sym (pick_true _ _ _ n ∙ pick_true _ _ _ (above f old h))

  pub made : is_nan x ≡ true → old % top f ≤ ones f * hid f → to_bits f x ≡ pattern_of f old x
  unfolding pattern_of
  made n h = ap (to_bits f) (is_nan_lem x n) ∙ sym (pick_true _ _ _ n ∙ pick_false _ _ _ (below f old h))

  pub number : is_nan x ≡ false → to_bits f x ≡ pattern_of f old x
  unfolding pattern_of
  number n = sym (pick_false _ _ _ n)
