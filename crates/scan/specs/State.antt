-- SPECIFICATION 3 and 4: a scan with the buffers lent to it, a new one, the state rules, and refusals 1, 2 and 3.
use Rattle.std.specs.Prelude.{ℕ, ◌+◌, ◌*◌, ◌/◌, ◌%◌, List, Bool, true, false, not, leb, ltb, eqb, Float}
use Rattle.std.specs.Float.Ieee.Scale.{finite}
use Rattle.answers.specs.Pick.{both, either}
use Rattle.answers.specs.Refusals.{require, none, outside_table, wrong_length, broken_state}
use Rattle.answers.specs.Numbers.{limit}
use Rattle.floats.specs.Functions.{zero64}
use Rattle.scan.specs.Bins.{coarse_min_frames, in_table, geometry_of, same_geometry}
use Rattle.scan.specs.declared.Geometry.{Geometry}
use Rattle.scan.specs.declared.Far.{Far}
use Rattle.scan.specs.declared.Near.{Near}
use Rattle.scan.specs.declared.Found.{Found}
use Rattle.scan.specs.declared.Found.TheVariants.{Nothing, At}
use Rattle.scan.specs.declared.Verdict.{Verdict}
use Rattle.scan.specs.declared.Scan.{Scan}

-- the lent buffers: far envelope; near levels, which are the near envelope's bins; window; two prefix buffers; lag scores; lag sums
pub record Buffers : Type 0 where
  pub envelope : List Float
  pub levels : List Float
  pub window : List Float
  pub prefix : List Float
  pub squares : List Float
  pub scores : List Float
  pub lag_sums : List Float

pub record World : Type 0 where
  pub scan : Scan
  pub buffers : Buffers

-- ---- a new scan

abbrev pub new_far : Far
new_far = record { next = 0; sum = zero64; count = 0; accepted = 0 }

abbrev pub new_near : Near
new_near = record { len = 0; sum = zero64; count = 0; first = 0; last = 0 }

-- no frame is under way any more, nor a block of one; the first bin and the last index stay, and nobody reads them
abbrev pub emptied : Near → Near
emptied n = record { len = 0; sum = zero64; count = 0; first = n.first; last = n.last }

abbrev pub new_verdict : Verdict
new_verdict = record { banked = 0; frames = 0; last = zero64; found = Nothing; beyond = false; exhausted = false }

abbrev pub new_scan : ℕ → ℕ → Scan
new_scan rate ceiling = record { geometry = geometry_of rate ceiling; far = new_far; near = new_near; verdict = new_verdict }

-- ---- what the rules and the calls ask of a state

abbrev pub present : Found → Bool
present Nothing = false
present (At r) = true

-- a region was found, or the scan gave up
abbrev pub finished : Verdict → Bool
finished v = either (present v.found) v.exhausted

-- a full frame waits
abbrev pub full : Geometry → Near → Bool
full g n = eqb n.len g.frame

-- neither a frame nor a block of one is under way
abbrev pub idle : Near → Bool
idle n = both (eqb n.count 0) (eqb n.len 0)

-- the samples of the frame under way
abbrev pub taken : Geometry → Near → ℕ
taken g n = n.len * g.decimation + n.count

-- what rate and ceiling give
abbrev pub due : Scan → Geometry
due s = geometry_of s.geometry.rate s.geometry.ceiling

-- ---- the state rules (3)

-- decimation, bin rate, span, frame and guards follow from rate and ceiling
abbrev pub geometry_rule : Scan → Bool
geometry_rule s = same_geometry s.geometry (due s)

-- far block index and partial count are the quotient and remainder of samples accepted by the decimation; its running sum is finite; samples accepted are at most 2^62
unfoldable pub far_rule : Geometry → Far → Bool
far_rule g f =
    both (eqb f.next (f.accepted / g.decimation))
    (both (eqb f.count (f.accepted % g.decimation))
    (both (finite f.sum)
    (leb f.accepted limit)))

-- near partial count is below the decimation, and 0 in a full frame; near length at most frame; its running sum is finite; a frame's first bin times the decimation is below 2^62;
-- while a frame or a block of one is under way, the last index is first bin x decimation plus samples taken less one
unfoldable pub near_rule : Geometry → Near → Bool
near_rule g n =
    both (ltb n.count g.decimation)
    (both (either (not (full g n)) (eqb n.count 0))
    (both (leb n.len g.frame)
    (both (finite n.sum)
    (both (ltb (n.first * g.decimation) limit)
    (either (idle n) (eqb (n.last + 1) (n.first * g.decimation + taken g n)))))))

-- frames banked below 4; a finished scan has near length and partial count 0
unfoldable pub verdict_rule : Near → Verdict → Bool
verdict_rule n v = both (ltb v.banked coarse_min_frames) (either (not (finished v)) (idle n))

unfoldable pub keeps_rules : Scan → Bool
keeps_rules s =
    both (geometry_rule s)
    (both (far_rule s.geometry s.far)
    (both (near_rule s.geometry s.near)
    (verdict_rule s.near s.verdict)))

-- ---- refusals 1, 2 and 3. `lengths` says of the buffers that a call is lent whether each is of the length that rate and ceiling give.

unfoldable pub first_refusals : Scan → Bool → ℕ
first_refusals s lengths =
    require (in_table s.geometry.rate s.geometry.ceiling) outside_table
    (require lengths wrong_length
    (require (keeps_rules s) broken_state
    none))
