-- What the reports of the fine stage tell (answers: Told): a delay is told as its samples, a float as its pattern.
use Rattle.std.specs.Prelude.{ℕ, zero, suc, List, [], ◌∷◌, Option, None, Some}
use Rattle.std.specs.Float.{binary64}
use Rattle.std.specs.Float.Ieee.{to_bits}
use Rattle.answers.specs.Refusals.{none}
use Rattle.answers.specs.Told.{refused}
use Rattle.fine.specs.declared.Positions.{Positions}
use Rattle.fine.specs.declared.SamplesReport.{SamplesReport}
use Rattle.fine.specs.declared.SamplesReport.TheVariants as samples
use Rattle.fine.specs.declared.RangeReport.{RangeReport}
use Rattle.fine.specs.declared.RangeReport.TheVariants as range
use Rattle.fine.specs.declared.RatioReport.{RatioReport}
use Rattle.fine.specs.declared.RatioReport.TheVariants as ratio
use Rattle.fine.specs.declared.PositionReport.{PositionReport}
use Rattle.fine.specs.declared.PositionReport.TheVariants as position

abbrev pub samples_told : SamplesReport → List ℕ
samples_told (samples.Refused number) = refused number
samples_told (samples.Is d) = 1 ∷ d.0 ∷ []

-- A range tells the first delay and the last.
abbrev pub range_told : RangeReport → List ℕ
range_told (range.Refused number) = refused number
range_told (range.Is r) = 1 ∷ r.first.0 ∷ r.last.0 ∷ []

abbrev pub ratio_told : RatioReport → List ℕ
ratio_told (ratio.Refused number) = refused number
ratio_told (ratio.Is x) = 1 ∷ to_bits binary64 x ∷ []

-- There has been no scan yet, or its peak's first and last position.
abbrev pub place_told : Option Positions → List ℕ
place_told None = 1 ∷ []
place_told (Some p) = 2 ∷ p.first ∷ p.last ∷ []

abbrev pub position_told : PositionReport → List ℕ
position_told (position.Refused number) = refused number
position_told (position.Is place) = place_told place

-- Gives the refusal that an answer tells, and none if the answer is not a refusal.
abbrev pub refusal_told : List ℕ → ℕ
refusal_told [] = none
refusal_told (zero ∷ []) = none
refusal_told (zero ∷ number ∷ rest) = number
refusal_told (suc place ∷ values) = none
