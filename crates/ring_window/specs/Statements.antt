-- What a reader may want to know of windows and floats beside the definitions. The statements.
use Rattle.std.specs.Prelude.{ℕ, ◌+◌, ◌≡◌, Bool, true, false, T, Float}
use Rattle.std.specs.Float.{nan, binary32}
use Rattle.std.specs.Float.Ieee.{fits, of_bits, to_bits}
use Rattle.answers.specs.Refusals.{none}
use Rattle.ring.specs.declared.Ring.{Ring}
use Rattle.ring.specs.declared.Kept.{Kept}
use Rattle.ring.specs.declared.Kept.TheVariants as kept
use Rattle.ring.specs.Ring.{ring_refusal}
use Rattle.ring_window.specs.Window.{read_at, at_head, at_tail, count_below}

abbrev pub unkept : Kept → Bool
unkept (kept.Refused number) = false
unkept kept.NotKept = true
unkept (kept.At place) = false

-- The samples missing at head and tail are those that a single read does not find, or that lie before the stream's first.
abbrev pub MissingIsUnkept : Type 0
MissingIsUnkept =
    (r : Ring) (capacity at back n : ℕ) → ring_refusal r capacity ≡ none
    → count_below (at_head r capacity at back) n + count_below (at_tail r at back) n ≡ count_below (λ i. unkept (read_at r capacity at back i)) n

-- A float that is pushed is the float that is read; a NaN is stored as 0x7FC00000.
abbrev pub FloatComesBack : Type 0
FloatComesBack = (x : Float) → T (fits binary32 x) → of_bits binary32 (to_bits binary32 x) ≡ x

abbrev pub NanStoredQuiet : Type 0
NanStoredQuiet = to_bits binary32 nan ≡ 0x7fc00000
