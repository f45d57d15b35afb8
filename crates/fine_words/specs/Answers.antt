-- What a call of the fine stage gives on the C face, besides its answer's number and values (words: Answers).
use Rattle.std.specs.Prelude.{ℕ, List, set}
use Rattle.std.specs.Float.{binary64}
use Rattle.answers.specs.Told.{change_told}
use Rattle.words.specs.Words.{word, pattern_of}
use Rattle.words.specs.Answers.{number, given}
use Rattle.fine.specs.declared.Changed.{Changed}
use Rattle.fine.specs.declared.RatioReport.{RatioReport}
use Rattle.fine.specs.declared.RatioReport.TheVariants.{Refused, Is}
use Rattle.fine_gate.specs.Told.{taking_told, gate_told}
use Rattle.fine_gate.specs.declared.Took.{Took}
use Rattle.fine_gate.specs.declared.Gated.{Gated}
use Rattle.fine_peak.specs.Told.{peak_told}
use Rattle.fine_peak.specs.declared.PeakAnswer.{PeakAnswer}
use Rattle.fine_peak.specs.declared.PeakAnswer.TheVariants as peak
use Rattle.fine_peak.specs.declared.Searched.{Searched}
use Rattle.fine_words.specs.Layout.{settled}

-- ---- how many values a call writes, if it is not one

-- The first and the last delay.
abbrev pub range_values : ℕ
range_values = 2

-- A peak's first and last position.
abbrev pub place_values : ℕ
place_values = 2

-- A lock's delay, the peak's first position, the ratio's pattern, and the peak's last position.
abbrev pub peak_values : ℕ
peak_values = 4

-- ---- the last ratio: a NaN is told by the pattern that it has in the state

abbrev pub ratio_pattern : List ℕ → ℕ
ratio_pattern ws = word ws 9

unfoldable pub ratio_given : List ℕ → ℕ → RatioReport → List ℕ
ratio_given vs old (Refused number) = vs
ratio_given vs old (Is x) = set vs 0 (pattern_of binary64 old x)

-- ---- a search: each value has its place, and without a candidate the values of the lock stay unchanged

unfoldable pub peak_given : List ℕ → PeakAnswer → List ℕ
peak_given vs (peak.Refused number) = vs
peak_given vs (peak.NoCandidate at) = set (set vs 1 at.first) 3 at.last
peak_given vs (peak.Candidate lock) = given vs (peak_told (peak.Candidate lock))

-- ---- what a call leaves in the words of the state

abbrev pub changed_words : List ℕ → Changed → List ℕ
changed_words ws c = settled ws (number (change_told c.answer)) c.fine

abbrev pub took_words : List ℕ → Took → List ℕ
took_words ws t = settled ws (number (taking_told t.answer)) t.fine

abbrev pub gated_words : List ℕ → Gated → List ℕ
gated_words ws g = settled ws (number (gate_told g.answer)) g.fine

abbrev pub searched_words : List ℕ → Searched → List ℕ
searched_words ws s = settled ws (number (peak_told s.answer)) s.fine
