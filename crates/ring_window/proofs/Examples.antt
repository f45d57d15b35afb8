-- The definitions on numbers, by computation: a ring of four that was pushed five samples.
use mathlib.Core.Path.{◌≡◌, refl}
use mathlib.Core.List.{List, [], ◌∷◌}
use Prim.Native.Nat.{ℕ}
use Rattle.answers.specs.Pick.{pick}
use Rattle.ring.specs.declared.Ring.{Ring}
use Rattle.ring.specs.Ring.{ring_refusal, gotten}
use Rattle.ring_window.specs.declared.Reading.TheVariants as reading
use Rattle.ring_window.specs.Window.{missing_of, listed, count_below, reading_of, window_read}

abbrev five : Ring
five = record { accepted = 5 }

-- sample 4 took the place of sample 0
abbrev buf : List ℕ
buf = 50 ∷ 20 ∷ 30 ∷ 40 ∷ []

abbrev eight : List ℕ
eight = 9 ∷ 9 ∷ 9 ∷ 9 ∷ 9 ∷ 9 ∷ 9 ∷ 9 ∷ []

-- from one sample before the stream's first to one behind the next
pub both_ends : window_read five buf 4 5 eight ≡ 0 ∷ 0 ∷ 20 ∷ 30 ∷ 40 ∷ 50 ∷ 0 ∷ 0 ∷ []
unfolding window_read listed gotten ring_refusal pick
both_ends = refl

pub both_ends_missing : reading_of five 4 4 5 8 ≡ reading.Read (missing_of 2 2)
unfolding reading_of count_below ring_refusal pick
both_ends_missing = refl

-- all of it lies before the stream
pub before_all_lem : reading_of five 4 0 8 8 ≡ reading.Read (missing_of 8 0)
unfolding reading_of count_below ring_refusal pick
before_all_lem = refl

-- a buffer of length 0 is refused, and so is a ring of more than 2^62 samples; nothing is written
pub no_buffer : reading_of five 0 4 5 8 ≡ reading.Refused 2
unfolding reading_of count_below ring_refusal pick
no_buffer = refl

pub too_many_kept : window_read (record { accepted = 4611686018427387905 }) buf 4 5 eight ≡ eight
unfolding window_read listed gotten ring_refusal pick
too_many_kept = refl
