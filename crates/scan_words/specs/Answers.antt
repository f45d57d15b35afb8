-- What the scan's answers become on the C face, where what they tell (scan: Told) is not all of it: how long the lent lists are, what a report gives of a
-- float that stands in the state, and what a call leaves in the words.
use Rattle.std.specs.Prelude.{ℕ, List, eqb, set}
use Rattle.std.specs.Float.{binary32, binary64}
use Rattle.answers.specs.Pick.{pick}
use Rattle.answers.specs.Told.{change_told}
use Rattle.words.specs.Words.{word, half, pattern_of}
use Rattle.words.specs.Answers.{number, given}
use Rattle.scan.specs.Told.{taking_told, frame_told, scoring_told}
use Rattle.scan.specs.declared.Region.{Region}
use Rattle.scan.specs.declared.Found.{Found}
use Rattle.scan.specs.declared.Found.TheVariants.{Nothing, At}
use Rattle.scan.specs.declared.Changed.{Changed}
use Rattle.scan.specs.declared.Took.{Took}
use Rattle.scan.specs.declared.Scored.{Scored}
use Rattle.scan.specs.declared.Scoring.{Scoring}
use Rattle.scan.specs.declared.Scoring.TheVariants as scoring
use Rattle.scan.specs.declared.RegionReport.{RegionReport}
use Rattle.scan.specs.declared.RegionReport.TheVariants as region
use Rattle.scan.specs.declared.LevelReport.{LevelReport}
use Rattle.scan.specs.declared.LevelReport.TheVariants as level
use Rattle.scan_words.specs.Layout.{settled}

-- ---- how many values a call is lent a list for, where it is not one

-- of a scored frame: a region's delay and correlation, or a banked frame's peak in the first; the products in the third
abbrev pub frame_values : ℕ
frame_values = 3

-- of a region: its delay and correlation
abbrev pub region_value_count : ℕ
region_value_count = 2

-- ---- a scored frame: its products stand third, whatever its case tells before them; a refusal gives nothing

unfoldable pub scoring_given : List ℕ → Scoring → List ℕ
scoring_given vs (scoring.Refused n) = vs
scoring_given vs (scoring.Frame f products) = set (given vs (frame_told f)) 2 products

-- ---- a float that stands in the state is given by the pattern `old` that it has there, a NaN's too; another one as it is told

-- a region: its delay, and its correlation as this pattern
abbrev pub placed : List ℕ → Region → ℕ → List ℕ
placed vs r pattern = set (set vs 0 r.delay.0) 1 pattern

unfoldable pub found_given : List ℕ → ℕ → Found → List ℕ
found_given vs old Nothing = vs
found_given vs old (At r) = placed vs r (pattern_of binary64 old r.correlation)

unfoldable pub region_given : List ℕ → ℕ → RegionReport → List ℕ
region_given vs old (region.Refused n) = vs
region_given vs old (region.Is f) = found_given vs old f

unfoldable pub level_given : List ℕ → ℕ → LevelReport → List ℕ
level_given vs old (level.Refused n) = vs
level_given vs old (level.Is x) = set vs 0 (pattern_of binary32 old x)

-- ---- the patterns that stand in the state

abbrev pub correlation_pattern : List ℕ → ℕ
correlation_pattern ws = word ws 21

-- Without a region the level told is the last frame's peak, which stands in the state. A region's is its correlation narrowed, and stands nowhere.
unfoldable pub level_pattern : List ℕ → ℕ
level_pattern ws = pick (eqb (word ws 19) 0) (half (word ws 18) 0) 0

-- ---- what a call leaves in the words of the state

abbrev pub changed_words : List ℕ → Changed → List ℕ
changed_words ws c = settled ws (number (change_told c.answer)) c.scan

abbrev pub took_words : List ℕ → Took → List ℕ
took_words ws t = settled ws (number (taking_told t.answer)) t.scan

abbrev pub scored_words : List ℕ → Scored → List ℕ
scored_words ws s = settled ws (number (scoring_told s.answer)) s.scan
