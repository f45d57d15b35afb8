-- Five histories at 48,000 as the service desk would read them, one for each verdict and one that does not move twice. Their verdicts follow from the theorems, which
-- shows that none of these is empty. A sixth has a contradiction that is over when somebody looks.
use mathlib.Core.Path.{◌≡◌, refl}
use mathlib.Core.Bool.{true, false, false≢true}
use mathlib.Core.List.{[], ◌∷◌}
use native.Mathlib.Omega.{arith}
use Rattle.answers.specs.declared.Count.TheVariants.{Is}
use Rattle.answers.specs.Answers.{counted}
use Rattle.answers.specs.Pick.{pick}
use Rattle.units.specs.declared.Samples.{Samples}
use Rattle.units.specs.Units.{samples}
use Rattle.tracker.specs.declared.Outcome.TheVariants.{Candidate, Unconfident}
use Rattle.tracker.specs.declared.Trigger.TheVariants.{Edge, Lost, Seam}
use Rattle.tracker.specs.declared.Verdict.TheVariants.{Reacquire}
use Rattle.tracker.specs.Tracker.{bands_of, same_bands, state_refusal, changed, fresh, made, longest_run}
use Rattle.tracker.specs.Cycle as tracker
use Rattle.tracker_history.specs.Histories.{Happening, cycle, discontinuity, History, InRange, Accepted, tracker_after, verdict_after, outside, agrees, unconfident_run, edges_since, pending_in, moves, inside, settles, suspicion}
use Rattle.tracker_history.specs.Sentences.{IsMove}
use Rattle.tracker_history.proofs.Accepted.{accepted_reads}
use Rattle.tracker_history.proofs.Verdicts.{lost, seam, edge, move}

abbrev here : Samples
here = samples 4800

abbrev unconfident : Happening
unconfident = cycle here Unconfident

abbrev edge_candidate : Happening
edge_candidate = cycle here (Candidate (samples 9600) false)

-- 10 ms before the alignment
abbrev early : Happening
early = cycle here (Candidate (samples 4320) true)

accepted : (h : History) → InRange h → Accepted 48000 h
unfolding pick
accepted h i = (accepted_reads 48000 h).1 (refl, i)

-- eight unconfident cycles
abbrev seven : History
seven = unconfident ∷ unconfident ∷ unconfident ∷ unconfident ∷ unconfident ∷ unconfident ∷ unconfident ∷ []

pub eighth : verdict_after 48000 seven here Unconfident ≡ Reacquire Lost
unfolding unconfident_run suspicion settles moves inside pick
eighth = (lost 48000 seven here Unconfident (accepted (unconfident ∷ seven) (refl, refl, (refl, refl, (refl, refl, (refl, refl, (refl, refl, (refl, refl, (refl, refl, (refl, refl, record {})))))))))).1 (omega arith, refl)

-- four after a discontinuity
abbrev three : History
three = unconfident ∷ unconfident ∷ unconfident ∷ discontinuity ∷ unconfident ∷ []

pub fourth : verdict_after 48000 three here Unconfident ≡ Reacquire Seam
unfolding unconfident_run suspicion settles moves inside pick
fourth = (seam 48000 three here Unconfident (accepted (unconfident ∷ three) (refl, refl, (refl, refl, (refl, refl, (refl, refl, (refl, refl, record {}))))))).1 (omega arith, refl)

-- three edge candidates with an unconfident cycle between them
abbrev two : History
two = edge_candidate ∷ unconfident ∷ edge_candidate ∷ []

pub third : verdict_after 48000 two here (Candidate (samples 9600) false) ≡ Reacquire Edge
unfolding edges_since
third = (edge 48000 two here (Candidate (samples 9600) false) (accepted (edge_candidate ∷ two) (refl, refl, (refl, refl, (refl, refl, (refl, refl, record {})))))).1 (refl, omega arith)

-- two candidates 10 ms early with an unconfident cycle between them
abbrev once : History
once = unconfident ∷ early ∷ []

pub confirmed : IsMove (verdict_after 48000 once here (Candidate (samples 4320) true))
unfolding moves outside agrees pending_in bands_of pick
confirmed = (move 48000 once here (Candidate (samples 4320) true) (accepted (early ∷ once) (refl, refl, (refl, refl, (refl, refl, record {}))))).1 refl

-- a third one does not move: the second did, and left nothing pending
pub moved_once : IsMove (verdict_after 48000 (early ∷ once) here (Candidate (samples 4320) true)) → ⊥
unfolding moves outside agrees pending_in bands_of pick
moved_once m =
    let e = (move 48000 (early ∷ once) here (Candidate (samples 4320) true) (accepted (early ∷ early ∷ once) (refl, refl, (refl, refl, (refl, refl, (refl, refl, record {})))))).0 m in
    false≢true e

-- a candidate at the alignment, one 1.9 s later, and a discontinuity: the run is 0, and the record says 1
abbrev cut : History
cut = discontinuity ∷ cycle here (Candidate (samples 96000) true) ∷ cycle here (Candidate here true) ∷ []

pub over : ((tracker_after 48000 cut).jumps ≡ 0) × (longest_run (tracker_after 48000 cut) ≡ Is 1)
unfolding tracker_after made fresh changed state_refusal bands_of same_bands counted pick tracker.cycled tracker.cycle_refusal tracker.judged tracker.interior_cycle tracker.outside_cycle tracker.outside_bands tracker.confirmed tracker.jumped tracker.contradicts tracker.escalated
over = (refl, refl)
