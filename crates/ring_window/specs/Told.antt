-- What a window's answer tells, in the form of answers: Told.
use Rattle.std.specs.Prelude.{ℕ, List, [], ◌∷◌}
use Rattle.answers.specs.Told.{refused}
use Rattle.ring_window.specs.declared.Reading.{Reading}
use Rattle.ring_window.specs.declared.Reading.TheVariants as reading

-- How many samples are missing at the head, and how many at the tail.
abbrev pub reading_told : Reading → List ℕ
reading_told (reading.Refused number) = refused number
reading_told (reading.Read m) = 1 ∷ m.head ∷ m.tail ∷ []
