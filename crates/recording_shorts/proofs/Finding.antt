-- Looking among the numbers: what is found, and when nothing is.
use Rattle.std.specs.Prelude.{Option, Some, None}
use mathlib.Core.Path.{◌≡◌, refl, sym, ap, ◌∙◌}
use mathlib.Core.Bool.{false}
use mathlib.Core.Logic.{inl, inr}
use Prim.Native.Nat.{ℕ, zero, suc, ◌<◌, ◌≤◌}
use native.Mathlib.Nat.{eq-or-lt_of_le}
use native.Mathlib.Omega.{arith}
use lib.Dec.{eqb}
use borrow.Author.Tests.{ne_eqb, eqb-true, eqb-false}
use Rattle.answers.specs.Pick.{pick_false, pick_case}
use Rattle.recording_shorts.specs.Shorts.{quotient_bits, short_among, short_of}
use Rattle.recording_shorts.proofs.Laws.{one_number}

found_among : (count n bits : ℕ) → count ≤ 65536 → n < count → quotient_bits n ≡ bits → short_among count bits ≡ Some n
unfolding short_among
found_among zero n bits h l e = absurd (omega arith)
found_among (suc k) n bits h l e =
    pick_case (λ (r : Option ℕ). r ≡ Some n) (eqb (quotient_bits k) bits) (Some k) (short_among k bits)
    (λ t. ap Some (one_number k n (omega arith) (omega arith) (eqb-true (quotient_bits k) bits t ∙ sym e)))
    (λ f. found_among k n bits (omega arith) (below f) e)
  where
    below : eqb (quotient_bits k) bits ≡ false → n < k
    below f = elim (eq-or-lt_of_le l) [
      | inl s ↦ absurd (eqb-false (quotient_bits k) bits f (let q : n ≡ k = omega arith in ap quotient_bits (sym q) ∙ e))
      | inr s ↦ omega arith
    ]

none_among : (count bits : ℕ) → ((n : ℕ) → n < count → quotient_bits n ≡ bits → ⊥) → short_among count bits ≡ None
unfolding short_among
none_among zero bits h = refl
none_among (suc k) bits h = pick_false _ _ _ (ne_eqb _ _ (h k (omega arith))) ∙ none_among k bits (λ n l. h n (omega arith))

pub found : (n bits : ℕ) → n < 65536 → quotient_bits n ≡ bits → short_of bits ≡ Some n
unfolding short_of
found n bits h e = found_among 65536 n bits (omega arith) h e

pub not_found : (bits : ℕ) → ((n : ℕ) → n < 65536 → quotient_bits n ≡ bits → ⊥) → short_of bits ≡ None
unfolding short_of
not_found bits h = none_among 65536 bits h
