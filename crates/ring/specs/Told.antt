-- What the ring's own answer tells, in the form of answers: Told.
use Rattle.std.specs.Prelude.{ℕ, List, [], ◌∷◌}
use Rattle.answers.specs.Told.{refused}
use Rattle.ring.specs.declared.Kept.{Kept}
use Rattle.ring.specs.declared.Kept.TheVariants as kept

-- The sample is not kept, or it is at one place of the lent buffer.
abbrev pub kept_told : Kept → List ℕ
kept_told (kept.Refused number) = refused number
kept_told kept.NotKept = 1 ∷ []
kept_told (kept.At place) = 2 ∷ place ∷ []
