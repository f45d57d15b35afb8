-- What each of the scan's own answers tells, in the form of answers: Told, its cases in the order of docs/SPECIFICATION.md, 3 and 7.
-- A float is told by its pattern, and the logic's one NaN by the quiet one without a sign.
use Rattle.std.specs.Prelude.{ℕ, List, [], ◌∷◌, ◌++◌}
use Rattle.std.specs.Float.{binary32, binary64}
use Rattle.std.specs.Float.Ieee.{to_bits}
use Rattle.answers.specs.Told.{refused}
use Rattle.scan.specs.declared.Region.{Region}
use Rattle.scan.specs.declared.Found.{Found}
use Rattle.scan.specs.declared.Found.TheVariants.{Nothing, At}
use Rattle.scan.specs.declared.Frame.{Frame}
use Rattle.scan.specs.declared.Frame.TheVariants as frame
use Rattle.scan.specs.declared.Taking.{Taking}
use Rattle.scan.specs.declared.Taking.TheVariants as taking
use Rattle.scan.specs.declared.Scoring.{Scoring}
use Rattle.scan.specs.declared.Scoring.TheVariants as scoring
use Rattle.scan.specs.declared.RegionReport.{RegionReport}
use Rattle.scan.specs.declared.RegionReport.TheVariants as region
use Rattle.scan.specs.declared.LevelReport.{LevelReport}
use Rattle.scan.specs.declared.LevelReport.TheVariants as level
use Rattle.scan.specs.declared.SamplesReport.{SamplesReport}
use Rattle.scan.specs.declared.SamplesReport.TheVariants as samples

abbrev pub taking_told : Taking → List ℕ
taking_told (taking.Refused number) = refused number
taking_told taking.Ignored = 1 ∷ []
taking_told taking.Dropped = 2 ∷ []
taking_told taking.Taken = 3 ∷ []
taking_told taking.Full = 4 ∷ []

-- a region: its delay and its correlation
abbrev pub region_values : Region → List ℕ
region_values r = r.delay.0 ∷ to_bits binary64 r.correlation ∷ []

abbrev pub frame_told : Frame → List ℕ
frame_told frame.Uncovered = 1 ∷ []
frame_told frame.Ahead = 2 ∷ []
frame_told frame.Quiet = 3 ∷ []
frame_told frame.Flat = 4 ∷ []
frame_told (frame.Banked peak) = 5 ∷ to_bits binary32 peak ∷ []
frame_told frame.Weak = 6 ∷ []
frame_told frame.Ceiling = 7 ∷ []
frame_told frame.Crowded = 8 ∷ []
frame_told (frame.Region r) = 9 ∷ region_values r

-- a frame's case, and behind its values the products
abbrev pub scoring_told : Scoring → List ℕ
scoring_told (scoring.Refused number) = refused number
scoring_told (scoring.Frame f products) = frame_told f ++ (products ∷ [])

-- none yet, or where it is
abbrev pub found_told : Found → List ℕ
found_told Nothing = 1 ∷ []
found_told (At r) = 2 ∷ region_values r

abbrev pub region_told : RegionReport → List ℕ
region_told (region.Refused number) = refused number
region_told (region.Is found) = found_told found

abbrev pub level_told : LevelReport → List ℕ
level_told (level.Refused number) = refused number
level_told (level.Is x) = 1 ∷ to_bits binary32 x ∷ []

abbrev pub samples_told : SamplesReport → List ℕ
samples_told (samples.Refused number) = refused number
samples_told (samples.Is n) = 1 ∷ n.0 ∷ []
