-- Each word is its sentence, both directions.
use Rattle.std.specs.Prelude.{Option, Some}
use Prim.Native.Nat.{ℕ, ◌≤◌}
use mathlib.Core.Path.{◌≡◌, refl, sym, ap, subst, ◌∙◌}
use mathlib.Core.Bool.{Bool, true, false, not, true≢false, false≢true}
use mathlib.Core.List.{[], ◌∷◌, ◌++◌}
use native.Mathlib.Omega.{arith}
use lib.ListN.{length}
use borrow.Author.Tests.{leb-true, le-leb}
use Rattle.std.specs.Prelude as option
use Rattle.answers.specs.Numbers.{apart}
use Rattle.answers.specs.Pick.{pick, either, pick_true, pick_false, pick_case}
use Rattle.answers.proofs.Passed.{both_true}
use Rattle.units.specs.declared.Samples.{Samples}
use Rattle.tracker.specs.declared.Outcome.{Outcome}
use Rattle.tracker.specs.declared.Outcome.TheVariants.{Candidate, Unconfident}
use Rattle.tracker.specs.Tracker.{bands_of}
use Rattle.tracker_history.specs.Histories.{cycle, discontinuity, History, outside, agrees, confirms, unconfident_run, edges_since, pending_in, moves, inside, suspicion}
use Rattle.tracker_history.specs.Sentences.{Test, None, LatestPasses, SinceLast, breaks_run, EndsRun, lifts_suspicion, seam_among, clears_edges, edges_among, clears_pending, Pending, Confirms, RunReads, SuspicionReads, EdgesRead, PendingReads, MovesRead}
use Rattle.tracker_history.proofs.Says.{clash}

-- ---- the run of unconfident cycles

whole_run : (h : History) → EndsRun (unconfident_run h) h
unfolding unconfident_run
whole_run [] = record { run = []; earlier = []; parts = refl; unbroken = record {}; long = omega arith }
whole_run (cycle a Unconfident ∷ h) =
    let r = whole_run h in
    record { run = cycle a Unconfident ∷ r.run; earlier = r.earlier; parts = ap (λ (l : History). cycle a Unconfident ∷ l) r.parts; unbroken = (refl, r.unbroken); long = omega (arith, r.long) }
whole_run (cycle a (Candidate d i) ∷ h) = record { run = []; earlier = _; parts = refl; unbroken = record {}; long = omega arith }
whole_run (discontinuity ∷ h) = record { run = []; earlier = _; parts = refl; unbroken = record {}; long = omega arith }

unbroken_run : (run earlier : History) → None breaks_run run earlier → length run ≤ unconfident_run (run ++ earlier)
unfolding unconfident_run
unbroken_run [] earlier n = omega arith
unbroken_run (cycle a Unconfident ∷ run) earlier n = omega (arith, unbroken_run run earlier n.1)
unbroken_run (cycle a (Candidate d i) ∷ run) earlier n = absurd (true≢false n.0)
unbroken_run (discontinuity ∷ run) earlier n = absurd (true≢false n.0)

pub run_reads : RunReads
run_reads least h = (
  (λ le. let r = whole_run h in record { run = r.run; earlier = r.earlier; parts = r.parts; unbroken = r.unbroken; long = omega (arith, r.long, le) }),
  λ r. let b = unbroken_run r.run r.earlier r.unbroken in rw r.parts (omega (arith, b, r.long)),
)

-- ---- since the last

-- every history falls into what came since the last such happening, and the rest
cut : (test : Test) (h : History) → SinceLast test h
cut test [] = record { since = []; earlier = []; parts = refl; none_since = record {}; last = record {} }
cut test (x ∷ h) =
    pick_case (λ (b : Bool). SinceLast test (x ∷ h)) (test h x) true false
    (λ e. record { since = []; earlier = x ∷ h; parts = refl; none_since = record {}; last = e })
    (λ e. let c = cut test h in
    record { since = x ∷ c.since; earlier = c.earlier; parts = ap (λ (l : History). x ∷ l) c.parts; none_since = (subst (λ (l : History). test l x ≡ false) c.parts e, c.none_since); last = c.last })

-- ---- suspicion

lifted : (rate : ℕ) (h : History) → LatestPasses (lifts_suspicion rate) h → suspicion rate h ≡ false
unfolding suspicion
lifted rate [] p = refl
lifted rate (cycle a o ∷ h) p = pick_true _ _ _ p
lifted rate (discontinuity ∷ h) p = absurd (false≢true p)

seam_since : (rate : ℕ) (since earlier : History) → None (lifts_suspicion rate) since earlier → LatestPasses (lifts_suspicion rate) earlier → suspicion rate (since ++ earlier) ≡ seam_among since
unfolding suspicion seam_among
seam_since rate [] earlier n p = lifted rate earlier p
seam_since rate (cycle a o ∷ since) earlier n p = pick_false _ _ _ n.0 ∙ seam_since rate since earlier n.1 p
seam_since rate (discontinuity ∷ since) earlier n p = refl

suspicion_since : (rate : ℕ) (h : History) (c : SinceLast (lifts_suspicion rate) h) → suspicion rate h ≡ seam_among c.since
suspicion_since rate h c = rw c.parts (seam_since rate c.since c.earlier c.none_since c.last)

pub suspicion_reads : SuspicionReads
suspicion_reads rate h = (
  (λ e. let c = cut (lifts_suspicion rate) h in record { after = c; came = sym (suspicion_since rate h c) ∙ e }),
  λ s. suspicion_since rate h s.after ∙ s.came,
)

-- ---- edge candidates

none_left : (h : History) → LatestPasses clears_edges h → edges_since h ≡ 0
unfolding edges_since
none_left [] p = refl
none_left (cycle a Unconfident ∷ h) p = absurd (false≢true p)
none_left (cycle a (Candidate d true) ∷ h) p = refl
none_left (cycle a (Candidate d false) ∷ h) p = absurd (false≢true p)
none_left (discontinuity ∷ h) p = refl

among_since : (since earlier : History) → None clears_edges since earlier → LatestPasses clears_edges earlier → edges_since (since ++ earlier) ≡ edges_among since
unfolding edges_since edges_among pick
among_since [] earlier n p = none_left earlier p
among_since (cycle a Unconfident ∷ since) earlier n p = omega (arith, among_since since earlier n.1 p)
among_since (cycle a (Candidate d true) ∷ since) earlier n p = absurd (true≢false n.0)
among_since (cycle a (Candidate d false) ∷ since) earlier n p = omega (arith, among_since since earlier n.1 p)
among_since (discontinuity ∷ since) earlier n p = absurd (true≢false n.0)

edges_since_lem : (h : History) (c : SinceLast clears_edges h) → edges_since h ≡ edges_among c.since
edges_since_lem h c = rw c.parts (among_since c.since c.earlier c.none_since c.last)

pub edges_read : EdgesRead
edges_read least h = (
  (λ le. let c = cut clears_edges h in record { after = c; came = omega (arith, edges_since_lem h c, le) }),
  λ s. omega (arith, edges_since_lem h s.after, s.came),
)

-- ---- pending

-- an interior candidate is outside the bands or inside them, and each of the two takes the place of what was pending
always_clears : (o m : Bool) → either o (either m (either false (not o))) ≡ false → ⊥
unfolding pick
always_clears true m e = true≢false e
always_clears false true e = true≢false e
always_clears false false e = true≢false e

pending_since : (rate : ℕ) (h : History) (delay : Samples) → pending_in rate h ≡ Some delay → Pending rate h delay
unfolding pending_in moves inside pick
pending_since rate [] delay e = clash (cc)
pending_since rate (cycle a Unconfident ∷ h) delay e =
    let r = pending_since rate h delay e in
    record {
      since = cycle a Unconfident ∷ r.since;
      alignment = r.alignment;
      earlier = r.earlier;
      parts = ap (λ (l : History). cycle a Unconfident ∷ l) r.parts;
      outer = r.outer;
      no_move_then = r.no_move_then;
      none_since = (refl, r.none_since);
    }
pending_since rate (cycle a (Candidate d true) ∷ h) delay e =
    let Q : Option Samples → Type 0 = λ p. p ≡ Some delay → Pending rate (cycle a (Candidate d true) ∷ h) delay in
    pick_case Q (confirms rate (pending_in rate h) a d) _ _
    (λ m e. clash (cc))
    (λ m. pick_case Q (outside rate a d) _ _
    (λ o e. let same : d ≡ delay = cc in
    subst (λ (x : Samples). Pending rate (cycle a (Candidate d true) ∷ h) x) same
    (record { since = []; alignment = a; earlier = h; parts = refl; outer = o; no_move_then = m; none_since = record {} }))
    (λ o e. clash (cc)))
    e
pending_since rate (cycle a (Candidate d false) ∷ h) delay e = clash (cc)
pending_since rate (discontinuity ∷ h) delay e = clash (cc)

still_pending : (rate : ℕ) (since : History) (a : Samples) (earlier : History) (delay : Samples) → outside rate a delay ≡ true → moves rate earlier a (Candidate delay true) ≡ false
    → None (clears_pending rate) since (cycle a (Candidate delay true) ∷ earlier) → pending_in rate (since ++ (cycle a (Candidate delay true) ∷ earlier)) ≡ Some delay
unfolding pending_in moves inside pick
still_pending rate [] a earlier delay o m n = pick_false _ _ _ m ∙ pick_true _ _ _ o
still_pending rate (cycle b Unconfident ∷ since) a earlier delay o m n = still_pending rate since a earlier delay o m n.1
still_pending rate (cycle b (Candidate d true) ∷ since) a earlier delay o m n = absurd (always_clears (outside rate b d) (moves rate (since ++ (cycle a (Candidate delay true) ∷ earlier)) b (Candidate d true)) n.0)
still_pending rate (cycle b (Candidate d false) ∷ since) a earlier delay o m n = absurd (true≢false n.0)
still_pending rate (discontinuity ∷ since) a earlier delay o m n = absurd (true≢false n.0)

pub pending_reads : PendingReads
pending_reads rate h delay =
    (pending_since rate h delay, λ p. rw p.parts (still_pending rate p.since p.alignment p.earlier delay p.outer p.no_move_then p.none_since))

-- ---- a move

agreed : (rate : ℕ) (pending : Option Samples) (d : Samples) → agrees rate pending d ≡ true → (q : Samples) × (pending ≡ Some q) × (apart d.0 q.0 ≤ (bands_of rate).agree)
unfolding agrees
agreed rate option.None d e = absurd (false≢true e)
agreed rate (Some q) d e = (q, refl, leb-true _ _ e)

confirms_reads : (rate : ℕ) (h : History) (a : Samples) (o : Outcome) → moves rate h a o ≡ true → Confirms rate h a o
unfolding moves
confirms_reads rate h a Unconfident e = absurd (false≢true e)
confirms_reads rate h a (Candidate d true) e =
    let b = both_true _ _ e in
    let q = agreed rate (pending_in rate h) d b.1 in
    record { delay = d; interior = refl; outer = b.0; waiting = q.0; pending = (pending_reads rate h q.0).0 q.1; near = q.2 }
confirms_reads rate h a (Candidate d false) e = absurd (false≢true e)

confirming : (rate : ℕ) (h : History) (a d q : Samples) → outside rate a d ≡ true → pending_in rate h ≡ Some q → apart d.0 q.0 ≤ (bands_of rate).agree → moves rate h a (Candidate d true) ≡ true
unfolding moves agrees
confirming rate h a d q o p near = pick_true _ _ _ o ∙ rw p (le-leb _ _ near)

pub moves_read : MovesRead
moves_read rate h a o = (
  confirms_reads rate h a o,
  λ c. rw c.interior (confirming rate h a c.delay c.waiting c.outer ((pending_reads rate h c.waiting).1 c.pending) c.near),
)
