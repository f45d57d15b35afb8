-- Request a: near samples in runs. A run has a first index; sample i of it has the index first + i. It ends after the sample that completes a frame, or with its last one,
-- and answers how many were taken. Its first sample may meet a hole (request d); the others follow each other.
use Rattle.std.specs.Prelude.{ℕ, ◌+◌, ◌-◌, ◌*◌, ◌%◌, min, List, [], ◌∷◌, not, ltb, eqb, length, take, drop, Float}
use Rattle.answers.specs.Pick.{pick, either}
use Rattle.answers.specs.Refusals.{require, before, if_refused, none, not_finite, too_large, frame_waits}
use Rattle.answers.specs.Numbers.{limit}
use Rattle.folds.specs.Sums.{all_finite}
use Rattle.scan.specs.Bins.{near_len}
use Rattle.scan.specs.State.{finished, full, idle, taken, due, first_refusals}
use Rattle.scan.specs.Blocks.{Seen, gather, held_at}
use Rattle.scan.specs.Calls.{with_near}
use Rattle.scan.specs.declared.Geometry.{Geometry}
use Rattle.scan.specs.declared.Near.{Near}
use Rattle.scan.specs.declared.Scan.{Scan}
use Rattle.scan_handover.specs.declared.RunTaking.{RunTaking}
use Rattle.scan_handover.specs.declared.RunTaking.TheVariants as run
use Rattle.scan_handover.specs.declared.Handed.{Handed}

-- ---- the part that would be taken, where m is the near side as the run's first sample finds it

-- so many samples stand before the one that begins a frame, and are dropped: none where a frame is under way
abbrev pub lead : Geometry → Near → ℕ → ℕ
lead g m first = pick (idle m) ((g.decimation - first % g.decimation) % g.decimation) 0

-- so many the frame still wants
abbrev pub wants : Geometry → Near → ℕ
wants g m = g.frame * g.decimation - taken g m

-- so many of n samples are taken
abbrev pub takes : Geometry → Near → ℕ → ℕ → ℕ
takes g m first n = min n (lead g m first + wants g m)

-- those of them that go into the frame
abbrev pub goes_in : Geometry → Near → ℕ → List Float → List Float
goes_in g m first xs = drop (lead g m first) (take (takes g m first (length xs)) xs)

-- ---- refusals

-- The part that would be taken is checked first: 5 if its last index is 2^62 or more, 4 if a sample of it that would go into the frame is not finite.
unfoldable pub part_refusal : Geometry → Near → List Float → ℕ → ℕ
part_refusal g m xs first =
    require (ltb (first + takes g m first (length xs) - 1) limit) too_large
    (require (all_finite (goes_in g m first xs)) not_finite
    none)

-- A run of none, and any run on a finished scan, is accepted after 1 to 3. A full frame waits, also for a run that would meet a hole.
unfoldable pub run_refusal : Scan → List Float → List Float → ℕ → ℕ
run_refusal s levels xs first =
    before (first_refusals s (eqb (length levels) (near_len (due s))))
    (pick (either (eqb (length xs) 0) (finished s.verdict)) none
    (require (not (full s.geometry s.near)) frame_waits
    (part_refusal s.geometry (held_at s.near first) xs first)))

-- ---- a run. Lent: the near envelope.

pub record NearRun : Type 0 where
  pub handed : Handed
  pub levels : List Float

-- the samples that go into the frame, one after the other
unfoldable pub gather_all : Geometry → Seen → List Float → ℕ → Seen
gather_all g t [] index = t
gather_all g t (x ∷ xs) index = gather_all g (gather g t x index) xs (index + 1)

-- nothing changes
abbrev pub unchanged : Scan → List Float → RunTaking → NearRun
unchanged s levels a = record { handed = record { scan = s; answer = a }; levels = levels }

-- n samples were taken, and this is the near side after them
abbrev pub taken_all : Scan → Seen → ℕ → NearRun
taken_all s t n =
    record {
      handed = record { scan = with_near s t.near; answer = pick (full s.geometry t.near) (run.Full n) (run.Taken n) };
      levels = t.levels;
    }

-- A hole drops the frame under way, whether a sample of the run begins another or not; a refused run changes nothing.
unfoldable pub handed : Scan → List Float → List Float → ℕ → NearRun
handed s levels xs first =
    let n = run_refusal s levels xs first in
    if_refused n
    (unchanged s levels (run.Refused n))
    (pick (eqb (length xs) 0) (unchanged s levels (run.Taken 0))
    (pick (finished s.verdict) (unchanged s levels (run.Ignored (length xs)))
    (let g = s.geometry in
    let m = held_at s.near first in
    taken_all s (gather_all g (record { near = m; levels = levels }) (goes_in g m first xs) (first + lead g m first)) (takes g m first (length xs)))))
