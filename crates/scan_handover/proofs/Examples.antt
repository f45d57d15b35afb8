-- The definition of a run, tried on numbers: a scan at 8,000 with 8 samples a bin and 256 bins a frame. Each row is a state, a run and what is due.
use Prim.Native.Nat.{ℕ, ◌+◌, ◌-◌, ◌^◌}
use mathlib.Core.Path.{◌≡◌, refl}
use mathlib.Core.List.{List, [], ◌∷◌}
use mathlib.Core.Bool.{Bool, true, false}
use lib.IntN.{pos}
use lib.Ieee.{Float, nan, fin}
use Rattle.answers.specs.Pick.{pick}
use Rattle.floats.specs.Functions.{zero64}
use Rattle.folds.specs.Sums.{zeros, table, all_finite}
use Rattle.scan.specs.Bins.{in_table, geometry_of, same_geometry}
use Rattle.scan.specs.State.{new_far, far_rule, near_rule, verdict_rule, keeps_rules, first_refusals}
use Rattle.scan.specs.Blocks.{gather}
use Rattle.scan.specs.declared.Found.TheVariants.{Nothing}
use Rattle.scan.specs.declared.Near.{Near}
use Rattle.scan.specs.declared.Scan.{Scan}
use Rattle.scan_handover.specs.declared.RunTaking.{RunTaking}
use Rattle.scan_handover.specs.declared.RunTaking.TheVariants as run
use Rattle.scan_handover.specs.Handover.{part_refusal, run_refusal, NearRun, gather_all, handed}

-- ---- a state: bins, samples of the next one, first bin, last index; and whether the scan gave up

abbrev near : ℕ → ℕ → ℕ → ℕ → Near
near len count first last = record { len = len; sum = zero64; count = count; first = first; last = last }

abbrev state : Near → Bool → Scan
state n over = record { geometry = geometry_of 8000 1; far = new_far; near = n; verdict = record { banked = 0; frames = 0; last = zero64; found = Nothing; beyond = false; exhausted = over } }

-- ---- an answer, and the near side that comes with it

pub data Says : Type 0 where
  refused ignored taken full : ℕ → Near → Says

-- the running sum is left out
abbrev plain : Near → Near
plain n = near n.len n.count n.first n.last

abbrev said : RunTaking → Near → Says
said (run.Refused k) n = refused k n
said (run.Ignored k) n = ignored k n
said (run.Taken k) n = taken k n
said (run.Full k) n = full k n

abbrev saying : NearRun → Says
saying r = said r.handed.answer (plain r.handed.scan.near)

pub data Row : Type 0 where
  row : Near → Bool → List Float → ℕ → Says → Row

abbrev All : List Row → Type 0
All [] = Unit {0}
All (row n over xs first says ∷ rows) = (saying (handed (state n over) (zeros 256) xs first) ≡ says) × All rows

abbrev x : Float
x = fin false 1 (pos 0)

abbrev five : List Float
five = x ∷ x ∷ x ∷ x ∷ x ∷ []

-- a frame that wants two samples: its first has the index 24
abbrev almost : Near
almost = near 255 6 3 (24 + 2046 - 1)

abbrev rows : List Row
rows =
    -- a run of none, whatever its index
    row (near 0 0 0 0) false [] (2 ^ 64 - 1) (taken 0 (near 0 0 0 0))
    -- three samples are dropped, and two begin a frame
    ∷ row (near 0 0 0 0) false five 13 (taken 5 (near 0 2 2 17))
    -- all are dropped: none is read
    ∷ row (near 0 0 0 0) false (nan ∷ nan ∷ nan ∷ []) 13 (taken 3 (near 0 0 0 0))
    -- one that would go into the frame is not finite
    ∷ row (near 0 0 0 0) false (nan ∷ nan ∷ nan ∷ x ∷ nan ∷ []) 13 (refused 4 (near 0 0 0 0))
    -- the frame is full after two of them: the others are not judged
    ∷ row almost false (x ∷ x ∷ nan ∷ []) 2070 (full 2 (near 256 0 3 2071))
    -- it wants one more
    ∷ row almost false (x ∷ []) 2070 (taken 1 (near 255 7 3 2070))
    -- a hole drops the frame, and the run begins another at once, after a sample, or not at all
    ∷ row almost false five 2072 (taken 5 (near 0 5 259 2076))
    ∷ row almost false five 2071 (taken 5 (near 0 4 259 2075))
    ∷ row almost false (nan ∷ []) 2071 (taken 1 (near 0 0 3 2069))
    -- refused, the run leaves the frame that it would have dropped
    ∷ row almost false (nan ∷ []) 2072 (refused 4 almost)
    -- the last index that is allowed, and one more; 5 comes before 4
    ∷ row (near 0 0 0 0) false five (2 ^ 62 - 5) (taken 5 (near 0 0 0 0))
    ∷ row (near 0 0 0 0) false five (2 ^ 62 - 4) (refused 5 (near 0 0 0 0))
    ∷ row (near 0 0 0 0) false (nan ∷ five) (2 ^ 62 - 8) (refused 4 (near 0 0 0 0))
    ∷ row (near 0 0 0 0) false (nan ∷ five) (2 ^ 62) (refused 5 (near 0 0 0 0))
    -- the indices behind the frame's last sample are not judged
    ∷ row (near 255 6 (2 ^ 59 - 256) (2 ^ 62 - 3)) false five (2 ^ 62 - 2) (full 2 (near 256 0 (2 ^ 59 - 256) (2 ^ 62 - 1)))
    -- a full frame waits, but for a run of none
    ∷ row (near 256 0 3 2071) false five 2072 (refused 6 (near 256 0 3 2071))
    ∷ row (near 256 0 3 2071) false [] 2072 (taken 0 (near 256 0 3 2071))
    -- a finished scan takes all of it
    ∷ row (near 0 0 3 2071) true (nan ∷ five) (2 ^ 64 - 1) (ignored 6 (near 0 0 3 2071))
    ∷ row (near 0 0 3 2071) true [] 0 (taken 0 (near 0 0 3 2071))
    -- 3 comes before all of this
    ∷ row (near 255 6 3 2070) true [] 0 (refused 3 (near 255 6 3 2070))
    ∷ []

pub rows_agree : All rows
unfolding handed run_refusal part_refusal gather_all gather pick first_refusals keeps_rules far_rule near_rule verdict_rule in_table geometry_of same_geometry all_finite zeros table
rows_agree = (refl, (refl, (refl, (refl, (refl, (refl, (refl, (refl, (refl, (refl, (refl, (refl, (refl, (refl, (refl, (refl, (refl, (refl, (refl, (refl, tt))))))))))))))))))))
