-- What an answer of the scan tells is the whole answer: it can be read back, and so two that tell the same are the same. Each float must be one of its
-- format, as every f32 and f64 is; the logic's one NaN is among them.
use Prim.Native.Nat.{ℕ}
use mathlib.Core.Bool.{Bool, true}
use mathlib.Core.Path.{◌≡◌, refl, sym, ap, ◌∙◌}
use mathlib.Core.List.{List, [], ◌∷◌, ◌++◌}
use lib.Dec.{T, eqb}
use lib.ListN.{get_or}
use lib.Ieee.{Float, binary32, binary64, fits, of_bits, to_bits}
use lib.Ieee.Bits.{of_bits-to_bits}
use Rattle.answers.specs.Pick.{pick}
use Rattle.units.specs.Units.{samples}
use Rattle.scan.specs.declared.Region.{Region}
use Rattle.scan.specs.declared.Found.TheVariants.{Nothing, At}
use Rattle.scan.specs.declared.Frame.{Frame}
use Rattle.scan.specs.declared.Frame.TheVariants as frame
use Rattle.scan.specs.declared.Taking.{Taking}
use Rattle.scan.specs.declared.Taking.TheVariants as taking
use Rattle.scan.specs.declared.Scoring.{Scoring}
use Rattle.scan.specs.declared.Scoring.TheVariants as scoring
use Rattle.scan.specs.declared.RegionReport.{RegionReport}
use Rattle.scan.specs.declared.RegionReport.TheVariants as region
use Rattle.scan.specs.declared.LevelReport.{LevelReport}
use Rattle.scan.specs.declared.LevelReport.TheVariants as level
use Rattle.scan.specs.declared.SamplesReport.{SamplesReport}
use Rattle.scan.specs.declared.SamplesReport.TheVariants as report
use Rattle.scan.specs.Told.{taking_told, frame_told, scoring_told, region_told, level_told, samples_told}

-- ---- reading back, by the case's number and its values

abbrev case : List ℕ → ℕ
case ns = get_or ns 0 0

abbrev first : List ℕ → ℕ
first ns = get_or ns 1 0

abbrev region_back : List ℕ → Region
region_back ns = record { delay = samples (first ns); correlation = of_bits binary64 (get_or ns 2 0) }

once_read : {A : Type 0} (told : A → List ℕ) (back : List ℕ → A) (x y : A) → back (told x) ≡ x → back (told y) ≡ y → told x ≡ told y → x ≡ y
once_read told back x y p q e = sym p ∙ ap back e ∙ q

region_back_lem : (r : Region) (h : T (fits binary64 r.correlation)) → ◌≡◌ {A = Region} (record { delay = r.delay; correlation = of_bits binary64 (to_bits binary64 r.correlation) }) r
region_back_lem r h = ap (λ (x : Float). record { delay = r.delay; correlation = x }) (of_bits-to_bits binary64 r.correlation h)

-- ---- a near sample

abbrev taking_back : List ℕ → Taking
taking_back ns =
    pick (eqb (case ns) 0) (taking.Refused (first ns))
    (pick (eqb (case ns) 1) taking.Ignored
    (pick (eqb (case ns) 2) taking.Dropped
    (pick (eqb (case ns) 3) taking.Taken taking.Full)))

taking_back_lem : (x : Taking) → taking_back (taking_told x) ≡ x
unfolding pick
taking_back_lem (taking.Refused n) = refl
taking_back_lem taking.Ignored = refl
taking_back_lem taking.Dropped = refl
taking_back_lem taking.Taken = refl
taking_back_lem taking.Full = refl

pub taking_told_lem : (x y : Taking) → taking_told x ≡ taking_told y → x ≡ y
taking_told_lem x y e = once_read taking_told taking_back x y (taking_back_lem x) (taking_back_lem y) e

-- ---- a scored frame

abbrev pub frame_held : Frame → Bool
frame_held frame.Uncovered = true
frame_held frame.Ahead = true
frame_held frame.Quiet = true
frame_held frame.Flat = true
frame_held (frame.Banked peak) = fits binary32 peak
frame_held frame.Weak = true
frame_held frame.Ceiling = true
frame_held frame.Crowded = true
frame_held (frame.Region r) = fits binary64 r.correlation

abbrev pub scoring_held : Scoring → Bool
scoring_held (scoring.Refused n) = true
scoring_held (scoring.Frame f n) = frame_held f

-- the products stand behind the values of the case: one of a banked frame, two of a region
abbrev products_back : List ℕ → ℕ
products_back ns = pick (eqb (case ns) 5) (get_or ns 2 0) (pick (eqb (case ns) 9) (get_or ns 3 0) (first ns))

abbrev scoring_back : List ℕ → Scoring
scoring_back ns =
    pick (eqb (case ns) 0) (scoring.Refused (first ns))
    (scoring.Frame
    (pick (eqb (case ns) 1) frame.Uncovered
    (pick (eqb (case ns) 2) frame.Ahead
    (pick (eqb (case ns) 3) frame.Quiet
    (pick (eqb (case ns) 4) frame.Flat
    (pick (eqb (case ns) 5) (frame.Banked (of_bits binary32 (first ns)))
    (pick (eqb (case ns) 6) frame.Weak
    (pick (eqb (case ns) 7) frame.Ceiling
    (pick (eqb (case ns) 8) frame.Crowded
    (frame.Region (region_back ns)))))))))) (products_back ns))

scoring_back_lem : (x : Scoring) → T (scoring_held x) → scoring_back (scoring_told x) ≡ x
unfolding pick
scoring_back_lem (scoring.Refused n) h = refl
scoring_back_lem (scoring.Frame frame.Uncovered n) h = refl
scoring_back_lem (scoring.Frame frame.Ahead n) h = refl
scoring_back_lem (scoring.Frame frame.Quiet n) h = refl
scoring_back_lem (scoring.Frame frame.Flat n) h = refl
scoring_back_lem (scoring.Frame (frame.Banked peak) n) h = ap (λ (x : Float). scoring.Frame (frame.Banked x) n) (of_bits-to_bits binary32 peak h)
scoring_back_lem (scoring.Frame frame.Weak n) h = refl
scoring_back_lem (scoring.Frame frame.Ceiling n) h = refl
scoring_back_lem (scoring.Frame frame.Crowded n) h = refl
scoring_back_lem (scoring.Frame (frame.Region r) n) h = ap (λ (q : Region). scoring.Frame (frame.Region q) n) (region_back_lem r h)

pub scoring_told_lem : (x y : Scoring) → T (scoring_held x) → T (scoring_held y) → scoring_told x ≡ scoring_told y → x ≡ y
scoring_told_lem x y h k e = once_read scoring_told scoring_back x y (scoring_back_lem x h) (scoring_back_lem y k) e

pub frame_told_lem : (x y : Frame) → T (frame_held x) → T (frame_held y) → frame_told x ≡ frame_told y → x ≡ y
frame_told_lem x y h k e = let f : scoring.Frame x 0 ≡ scoring.Frame y 0 = scoring_told_lem (scoring.Frame x 0) (scoring.Frame y 0) h k (ap (λ (ns : List ℕ). ns ++ (0 ∷ [])) e) in cc

-- ---- reports

abbrev pub region_held : RegionReport → Bool
region_held (region.Refused n) = true
region_held (region.Is Nothing) = true
region_held (region.Is (At r)) = fits binary64 r.correlation

abbrev region_report_back : List ℕ → RegionReport
region_report_back ns = pick (eqb (case ns) 0) (region.Refused (first ns)) (region.Is (pick (eqb (case ns) 1) Nothing (At (region_back ns))))

region_report_back_lem : (x : RegionReport) → T (region_held x) → region_report_back (region_told x) ≡ x
unfolding pick
region_report_back_lem (region.Refused n) h = refl
region_report_back_lem (region.Is Nothing) h = refl
region_report_back_lem (region.Is (At r)) h = ap (λ (q : Region). region.Is (At q)) (region_back_lem r h)

pub region_told_lem : (x y : RegionReport) → T (region_held x) → T (region_held y) → region_told x ≡ region_told y → x ≡ y
region_told_lem x y h k e = once_read region_told region_report_back x y (region_report_back_lem x h) (region_report_back_lem y k) e

abbrev pub level_held : LevelReport → Bool
level_held (level.Refused n) = true
level_held (level.Is x) = fits binary32 x

abbrev level_back : List ℕ → LevelReport
level_back ns = pick (eqb (case ns) 0) (level.Refused (first ns)) (level.Is (of_bits binary32 (first ns)))

level_back_lem : (x : LevelReport) → T (level_held x) → level_back (level_told x) ≡ x
unfolding pick
level_back_lem (level.Refused n) h = refl
level_back_lem (level.Is x) h = ap level.Is (of_bits-to_bits binary32 x h)

pub level_told_lem : (x y : LevelReport) → T (level_held x) → T (level_held y) → level_told x ≡ level_told y → x ≡ y
level_told_lem x y h k e = once_read level_told level_back x y (level_back_lem x h) (level_back_lem y k) e

abbrev samples_back : List ℕ → SamplesReport
samples_back ns = pick (eqb (case ns) 0) (report.Refused (first ns)) (report.Is (samples (first ns)))

samples_back_lem : (x : SamplesReport) → samples_back (samples_told x) ≡ x
unfolding pick
samples_back_lem (report.Refused n) = refl
samples_back_lem (report.Is n) = refl

pub samples_told_lem : (x y : SamplesReport) → samples_told x ≡ samples_told y → x ≡ y
samples_told_lem x y e = once_read samples_told samples_back x y (samples_back_lem x) (samples_back_lem y) e
