-- A run, refused and not, with what the code found.
use Prim.Native.Nat.{ℕ, ◌+◌, ◌≤◌, ◌<◌}
use mathlib.Core.Path.{◌≡◌, sym, ap, ◌∙◌}
use mathlib.Core.List.{List}
use mathlib.Core.Bool.{true, not}
use native.Mathlib.Omega.{arith}
use lib.Dec.{eqb}
use lib.ListN.{length, take}
use lib.Seq.{paste, length-take-le}
use lib.Ieee.{Float}
use borrow.Author.Tests.{eqb-true, eqb-false, eq-eqb, ne_eqb, not-true}
use Rattle.answers.specs.Pick.{pick, pick_true, pick_false}
use Rattle.answers.specs.Refusals.{require, none, not_finite, frame_waits}
use Rattle.answers.proofs.Refusals.{passed, passed_both}
use Rattle.folds.specs.Sums.{all_finite}
use Rattle.fine.specs.State.{frame_of, span_of, full, first_refusals}
use Rattle.fine.specs.declared.Fine.{Fine}
use Rattle.fine.proofs.Laws.{accepted}
use Rattle.fine_gate.specs.Gate.{is_frame}
use Rattle.fine_handover.specs.declared.RunTaking.TheVariants as run
use Rattle.fine_handover.specs.declared.Handed.{Handed}
use Rattle.fine_handover.specs.Handover.{NearRun, near_run, takes, part, run_refusal, filled_by, taken_all, handed}
use Rattle.fine_handover.specs.Singles.{Takes}
use Rattle.fine_handover.specs.Ready.{longer_by}
use Rattle.fine_handover.proofs.Filling.{filled_state, filled_near}

is_frame_lem : (span len : ℕ) → is_frame span len ≡ true → len ≡ frame_of span
unfolding is_frame
is_frame_lem span len e = eqb-true len (frame_of span) e

-- ---- what is known of a state that takes samples

module _ (s : Fine) (near : List Float) (k : Takes s near) where
  -- the near frame is as long as the state says
  pub lent : length near ≡ s.lengths.frame
  lent =
      let a = accepted s _ k.judged in
      is_frame_lem (span_of s) (length near) a.0 ∙ sym a.1.frame

  pub room : s.frames.len < s.lengths.frame
  room = let a = accepted s _ k.judged in omega (arith, a.1.near, eqb-false s.frames.len s.lengths.frame k.unfilled)

-- ---- a run of at least one sample that is not refused

module _ (s : Fine) (near xs : List Float) (z : run_refusal s (length near) xs ≡ none) (some : length xs ≡ 0 → ⊥) where
  left : require (not (full s)) frame_waits (require (all_finite (part s xs)) not_finite none) ≡ 0
  unfolding run_refusal
  left = sym (pick_false (eqb (length xs) 0) _ _ (ne_eqb (length xs) 0 some)) ∙ (passed_both (first_refusals s (is_frame (span_of s) (length near))) _ z).1

  pub takes_samples : Takes s near
  unfolding run_refusal
  takes_samples =
      record {
        judged = (passed_both (first_refusals s (is_frame (span_of s) (length near))) _ z).0;
        unfilled = not-true _ (passed (not (full s)) 5 _ left).0;
      }

  pub part_finite : all_finite (part s xs) ≡ true
  part_finite = (passed (all_finite (part s xs)) 3 _ (passed (not (full s)) 5 _ left).1).0

  pub is_handed : taken_all (filled_by s near (part s xs)) (takes s (length xs)) ≡ handed s near xs
  unfolding handed
  is_handed = sym (pick_true (eqb (run_refusal s (length near) xs) 0) _ _ (eq-eqb _ 0 z) ∙ pick_false (eqb (length xs) 0) _ _ (ne_eqb (length xs) 0 some))

  -- n of them are taken
  module _ (n : ℕ) (e : n ≡ takes s (length xs)) where
    pub some_of_them : n ≤ length xs
    some_of_them = omega (arith, e)

    pub fits_state : s.frames.len + n ≤ s.lengths.frame
    fits_state = omega (arith, e, room s near takes_samples)

    pub fits_frame : s.frames.len + n ≤ length near
    fits_frame = omega (arith, fits_state, lent s near takes_samples)

    pub handed_state : ◌≡◌ {A = Handed} (record { fine = longer_by s n; answer = pick (full (longer_by s n)) (run.Full n) (run.Taken n) }) (handed s near xs).handed
    handed_state =
        let same : (filled_by s near (take n xs)).fine ≡ longer_by s n = filled_state s near (take n xs) ∙ ap (longer_by s) (length-take-le n xs some_of_them) in
        sym (ap (λ (t : Fine). record { fine = t; answer = pick (full t) (run.Full n) (run.Taken n) }) same)
        ∙ ap (λ (m : ℕ). (taken_all (filled_by s near (take m xs)) m).handed) e
        ∙ ap (λ (r : NearRun). r.handed) is_handed

    pub handed_near : paste near s.frames.len xs n ≡ (handed s near xs).near
    handed_near =
        sym (filled_near s near xs n some_of_them fits_frame)
        ∙ ap (λ (m : ℕ). (filled_by s near (take m xs)).near) e
        ∙ ap (λ (r : NearRun). r.near) is_handed

-- ---- the other runs

module _ (s : Fine) (near xs : List Float) {n : ℕ} (is : n ≡ run_refusal s (length near) xs) where
  pub not_handed : (n ≡ 0 → ⊥) → near_run s (run.Refused n) near ≡ handed s near xs
  unfolding handed
  not_handed h = ap (λ (k : ℕ). near_run s (run.Refused k) near) is ∙ sym (pick_false (eqb (run_refusal s (length near) xs) 0) _ _ (ne_eqb _ 0 (λ z. h (is ∙ z))))

  pub is_empty : n ≡ 0 → length xs ≡ 0 → near_run s (run.Taken 0) near ≡ handed s near xs
  unfolding handed
  is_empty z e = sym (pick_true (eqb (run_refusal s (length near) xs) 0) _ _ (eq-eqb _ 0 (sym is ∙ z)) ∙ pick_true (eqb (length xs) 0) _ _ (eq-eqb (length xs) 0 e))
