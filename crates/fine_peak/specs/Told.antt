-- What the answer of a search tells (answers: Told).
use Rattle.std.specs.Prelude.{ℕ, List, [], ◌∷◌, to_bits}
use Rattle.std.specs.Float.{binary64}
use Rattle.answers.specs.Told.{refused}
use Rattle.fine_peak.specs.declared.PeakAnswer.{PeakAnswer}
use Rattle.fine_peak.specs.declared.PeakAnswer.TheVariants as answer

-- It tells the peak's first and last position and, for a candidate, also the delay and the pattern of the ratio.
abbrev pub peak_told : PeakAnswer → List ℕ
peak_told (answer.Refused number) = refused number
peak_told (answer.NoCandidate places) = 1 ∷ places.first ∷ places.last ∷ []
peak_told (answer.Candidate lock) = 2 ∷ lock.delay.0 ∷ lock.peak_at.first ∷ to_bits binary64 lock.ratio ∷ lock.peak_at.last ∷ []
