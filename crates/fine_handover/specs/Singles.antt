-- A run's state, near frame and answers are those of single pushes. The statements; `pushed_near` is crate fine_gate's.
use Rattle.std.specs.Prelude.{ℕ, ◌-◌, ◌<◌, ◌≡◌, List, [], ◌∷◌, ◌++◌, Bool, true, false, not, eqb, length, take, replicate, Float}
use Rattle.answers.specs.Pick.{either}
use Rattle.answers.specs.Refusals.{none, frame_waits}
use Rattle.fine.specs.State.{span_of, full, first_refusals}
use Rattle.fine.specs.declared.Fine.{Fine}
use Rattle.fine_gate.specs.Gate.{is_frame, near_refusal, pushed_near}
use Rattle.fine_gate.specs.declared.Taking.{Taking}
use Rattle.fine_gate.specs.declared.Taking.TheVariants as taking
use Rattle.fine_handover.specs.declared.RunTaking.{RunTaking}
use Rattle.fine_handover.specs.declared.RunTaking.TheVariants as run
use Rattle.fine_handover.specs.Handover.{part, run_refusal, handed}

-- ---- single pushes, one after the other

pub record Pushes : Type 0 where
  pub fine : Fine
  pub near : List Float
  pub answers : List Taking

-- One more answer, before the others.
abbrev pub preceded : Taking → Pushes → Pushes
preceded a p = record { fine = p.fine; near = p.near; answers = a ∷ p.answers }

-- Each is made on the state and near frame that the one before left.
unfoldable pub singles : Fine → List Float → List Float → Pushes
singles s near [] = record { fine = s; near = near; answers = [] }
singles s near (x ∷ xs) =
    let p = pushed_near s near x in
    preceded p.took.answer (singles p.took.fine p.near xs)

-- ---- what a run's answer says of the single ones

-- How many samples were taken.
abbrev pub taken_in : RunTaking → ℕ
taken_in (run.Refused n) = 0
taken_in (run.Taken n) = n
taken_in (run.Full n) = n

-- Each sample is answered by itself, and only the last one can complete the frame.
abbrev pub singly : RunTaking → List Taking
singly (run.Refused n) = []
singly (run.Taken n) = replicate n taking.Taken
singly (run.Full n) = replicate (n - 1) taking.Taken ++ (taking.Full ∷ [])

-- The samples taken, by single pushes.
abbrev pub by_one : Fine → List Float → List Float → Pushes
by_one s near xs = singles s near (take (taken_in (handed s near xs).handed.answer) xs)

pub record SameAsSingles (s : Fine) (near xs : List Float) : Type 0 where
  pub state : (handed s near xs).handed.fine ≡ (by_one s near xs).fine
  pub frame : (handed s near xs).near ≡ (by_one s near xs).near
  pub answers : (by_one s near xs).answers ≡ singly (handed s near xs).handed.answer

-- A run that is not refused does what single pushes do, none of which is refused.
abbrev pub RunIsSingles : Type 0
RunIsSingles = (s : Fine) (near xs : List Float) → run_refusal s (length near) xs ≡ none → SameAsSingles s near xs

-- ---- where a run is refused

abbrev pub is_refused : Taking → Bool
is_refused (taking.Refused n) = true
is_refused taking.Taken = false
is_refused taking.Full = false

abbrev pub one_refused : List Taking → Bool
one_refused [] = false
one_refused (a ∷ later) = either (is_refused a) (one_refused later)

-- 1 to 3 refuse nothing, and no full frame waits.
pub record Takes (s : Fine) (near : List Float) : Type 0 where
  pub judged : first_refusals s (is_frame (span_of s) (length near)) ≡ none
  pub unfilled : full s ≡ false

-- In such a state a run is refused exactly where one of the single pushes of the part that would be taken is: it differs from them only in that it takes nothing then.
abbrev pub RefusedIff : Type 0
RefusedIff =
    (s : Fine) (near xs : List Float) → Takes s near
    → not (eqb (run_refusal s (length near) xs) none) ≡ one_refused (singles s near (part s xs)).answers

-- Where 1 to 3 refuse, a run is refused with the number with which each of its samples would be; and so where a full frame waits.
abbrev pub RefusedFirst : Type 0
RefusedFirst =
    (s : Fine) (near xs : List Float) (x : Float) → (first_refusals s (is_frame (span_of s) (length near)) ≡ none → ⊥)
    → run_refusal s (length near) xs ≡ near_refusal s (length near) x

abbrev pub RefusedWaiting : Type 0
RefusedWaiting =
    (s : Fine) (near xs : List Float) (x : Float) → first_refusals s (is_frame (span_of s) (length near)) ≡ none → full s ≡ true → 0 < length xs
    → (run_refusal s (length near) xs ≡ frame_waits) × (near_refusal s (length near) x ≡ frame_waits)
