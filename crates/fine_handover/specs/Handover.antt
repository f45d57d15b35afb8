-- SPECIFICATION 9: near samples of the fine stage in runs. A run ends after the sample that completes the frame, or with its last one, and answers how many were taken.
use Rattle.std.specs.Prelude.{ℕ, ◌-◌, min, List, [], ◌∷◌, not, eqb, length, take, set, Float}
use Rattle.answers.specs.Pick.{pick}
use Rattle.answers.specs.Refusals.{require, before, if_refused, none, not_finite, frame_waits}
use Rattle.folds.specs.Sums.{all_finite}
use Rattle.fine.specs.State.{span_of, full, first_refusals}
use Rattle.fine.specs.declared.Fine.{Fine}
use Rattle.fine_gate.specs.Gate.{is_frame, took_one}
use Rattle.fine_handover.specs.declared.RunTaking.{RunTaking}
use Rattle.fine_handover.specs.declared.RunTaking.TheVariants as run
use Rattle.fine_handover.specs.declared.Handed.{Handed}

-- ---- the part that would be taken

-- The frame still wants so many samples.
abbrev pub wants : Fine → ℕ
wants s = s.lengths.frame - s.frames.len

-- So many of n samples are taken.
abbrev pub takes : Fine → ℕ → ℕ
takes s n = min n (wants s)

abbrev pub part : Fine → List Float → List Float
part s xs = take (takes s (length xs)) xs

-- ---- refusals

-- A run of none is accepted after 1 to 3. A full frame waits. The part that would be taken is judged as a whole; what lies behind it is not read.
unfoldable pub run_refusal : Fine → ℕ → List Float → ℕ
run_refusal s near_len xs =
    before (first_refusals s (is_frame (span_of s) near_len))
    (pick (eqb (length xs) 0) none
    (require (not (full s)) frame_waits
    (require (all_finite (part s xs)) not_finite
    none)))

-- ---- a run. The near frame is lent.

pub record NearRun : Type 0 where
  pub handed : Handed
  pub near : List Float

abbrev pub near_run : Fine → RunTaking → List Float → NearRun
near_run s a near = record { handed = record { fine = s; answer = a }; near = near }

-- A state with its near frame.
pub record Filled : Type 0 where
  pub fine : Fine
  pub near : List Float

-- One sample after the other is counted and put where a single push counts and puts it.
unfoldable pub filled_by : Fine → List Float → List Float → Filled
filled_by s near [] = record { fine = s; near = near }
filled_by s near (x ∷ xs) = filled_by (took_one s).fine (set near s.frames.len x) xs

-- n samples were taken, and this is the frame after them.
abbrev pub taken_all : Filled → ℕ → NearRun
taken_all f n = near_run f.fine (pick (full f.fine) (run.Full n) (run.Taken n)) f.near

-- A refused run changes nothing.
unfoldable pub handed : Fine → List Float → List Float → NearRun
handed s near xs =
    let n = run_refusal s (length near) xs in
    if_refused n
    (near_run s (run.Refused n) near)
    (pick (eqb (length xs) 0) (near_run s (run.Taken 0) near)
    (taken_all (filled_by s near (part s xs)) (takes s (length xs))))
