-- Request a: a run's state, buffers and answers are those of single pushes with rising indices. The statements; `pushed_near` is crate scan's.
use Rattle.std.specs.Prelude.{ℕ, ◌+◌, ◌-◌, ◌<◌, min, ◌≡◌, List, [], ◌∷◌, ◌++◌, Bool, true, false, not, T, eqb, length, take, replicate, Float}
use Rattle.std.specs.Float.{binary64}
use Rattle.std.specs.Float.Ieee.{fits}
use Rattle.answers.specs.Pick.{either}
use Rattle.answers.specs.Refusals.{none, frame_waits}
use Rattle.scan.specs.Bins.{near_len}
use Rattle.scan.specs.State.{finished, full, due, first_refusals}
use Rattle.scan.specs.Blocks.{held_at}
use Rattle.scan.specs.Calls.{pushed_near, near_refusal}
use Rattle.scan.specs.Streams.{AllF32}
use Rattle.scan.specs.declared.Scan.{Scan}
use Rattle.scan.specs.declared.Taking.{Taking}
use Rattle.scan.specs.declared.Taking.TheVariants as taking
use Rattle.scan_handover.specs.declared.RunTaking.{RunTaking}
use Rattle.scan_handover.specs.declared.RunTaking.TheVariants as run
use Rattle.scan_handover.specs.Handover.{lead, takes, run_refusal, handed}

-- ---- single pushes, one after the other

pub record Pushes : Type 0 where
  pub scan : Scan
  pub levels : List Float
  pub answers : List Taking

-- one more answer, before the others
abbrev pub preceded : Taking → Pushes → Pushes
preceded a p = record { scan = p.scan; levels = p.levels; answers = a ∷ p.answers }

-- each with the index after the one before, on the state and near levels that it left
unfoldable pub singles : Scan → List Float → List Float → ℕ → Pushes
singles s levels [] index = record { scan = s; levels = levels; answers = [] }
singles s levels (x ∷ xs) index =
    let p = pushed_near s levels x index in
    preceded p.took.answer (singles p.took.scan p.levels xs (index + 1))

-- ---- what a run's answer says of the single ones, where the first `dropped` samples begin no frame

-- how many samples were taken
abbrev pub taken_in : RunTaking → ℕ
taken_in (run.Refused n) = 0
taken_in (run.Ignored n) = n
taken_in (run.Taken n) = n
taken_in (run.Full n) = n

-- each sample is answered by itself, and only the last one can complete the frame
abbrev pub singly : ℕ → RunTaking → List Taking
singly dropped (run.Refused n) = []
singly dropped (run.Ignored n) = replicate n taking.Ignored
singly dropped (run.Taken n) = replicate (min dropped n) taking.Dropped ++ replicate (n - dropped) taking.Taken
singly dropped (run.Full n) = replicate dropped taking.Dropped ++ replicate (n - dropped - 1) taking.Taken ++ (taking.Full ∷ [])

-- the run's part, by single pushes
abbrev pub by_one : Scan → List Float → List Float → ℕ → Pushes
by_one s levels xs first = singles s levels (take (taken_in (handed s levels xs first).handed.answer) xs) first

pub record SameAsSingles (s : Scan) (levels xs : List Float) (first : ℕ) : Type 0 where
  pub state : (handed s levels xs first).handed.scan ≡ (by_one s levels xs first).scan
  pub bins : (handed s levels xs first).levels ≡ (by_one s levels xs first).levels
  pub answers : (by_one s levels xs first).answers ≡ singly (lead s.geometry (held_at s.near first) first) (handed s levels xs first).handed.answer

-- A run that is not refused does what single pushes do, none of which is refused. The running sum is of the type f64, and the samples are of the type f32.
abbrev pub RunIsSingles : Type 0
RunIsSingles =
    (s : Scan) (levels xs : List Float) (first : ℕ) → T (fits binary64 s.near.sum) → AllF32 xs → run_refusal s levels xs first ≡ none → SameAsSingles s levels xs first

-- ---- where a run is refused

abbrev pub is_refused : Taking → Bool
is_refused (taking.Refused n) = true
is_refused taking.Ignored = false
is_refused taking.Dropped = false
is_refused taking.Taken = false
is_refused taking.Full = false

abbrev pub one_refused : List Taking → Bool
one_refused [] = false
one_refused (a ∷ later) = either (is_refused a) (one_refused later)

-- 1 to 3 refuse nothing, the scan is not finished, and no full frame waits
pub record Takes (s : Scan) (levels : List Float) : Type 0 where
  pub judged : first_refusals s (eqb (length levels) (near_len (due s))) ≡ none
  pub unfinished : finished s.verdict ≡ false
  pub unfilled : full s.geometry s.near ≡ false

-- Such a run is refused exactly where one of the single pushes of the part that would be taken is: it differs from them only in that it takes nothing then.
abbrev pub RefusedIff : Type 0
RefusedIff =
    (s : Scan) (levels xs : List Float) (first : ℕ) → T (fits binary64 s.near.sum) → AllF32 xs → Takes s levels → 0 < length xs
    → not (eqb (run_refusal s levels xs first) none)
    ≡ one_refused (singles s levels (take (takes s.geometry (held_at s.near first) first (length xs)) xs) first).answers

-- Where 1 to 3 refuse, a run is refused with the number with which each of its samples would be; and so where a full frame waits.
abbrev pub RefusedFirst : Type 0
RefusedFirst =
    (s : Scan) (levels xs : List Float) (first : ℕ) (x : Float) (index : ℕ) → (first_refusals s (eqb (length levels) (near_len (due s))) ≡ none → ⊥)
    → run_refusal s levels xs first ≡ near_refusal s levels x index

abbrev pub RefusedWaiting : Type 0
RefusedWaiting =
    (s : Scan) (levels xs : List Float) (first : ℕ) (x : Float) (index : ℕ) → first_refusals s (eqb (length levels) (near_len (due s))) ≡ none → finished s.verdict ≡ false
    → full s.geometry s.near ≡ true → 0 < length xs → (run_refusal s levels xs first ≡ frame_waits) × (near_refusal s levels x index ≡ frame_waits)
