-- Any call, a run among them, on two scans.
use Prim.Native.Nat.{ℕ, ◌<◌}
use mathlib.Core.Path.{◌≡◌, ap}
use mathlib.Core.Bool.{Bool, true, false, false≢true}
use Rattle.scan.specs.State.{World}
use Rattle.scan.specs.Steps.{scores}
use Rattle.scan.specs.declared.Scoring.TheVariants as scoring
use Rattle.scan.specs.declared.Frame.TheVariants as frame
use Rattle.scan_handover.specs.declared.Handed.{Handed}
use Rattle.scan_panel.specs.Feeds.{Fed, call, run, says, counts, fed, Typed}
use Rattle.scan_panel_agrees.specs.Agreement.{FarAlike, Agree, parts_at, anew, common}
use Rattle.scan_panel_agrees.proofs.Own.{Own, own_kept}
use Rattle.scan_panel_agrees.proofs.Always.{far_alike_always, rearm_agrees, answers_always}
use Rattle.scan_panel_agrees.proofs.Partings.{Parts}
use Rattle.scan_panel_agrees.proofs.Agrees.{agrees_by, uncovered_by}
use Rattle.scan_panel_agrees.proofs.Runs.{run_far, run_answers, run_agrees, run_own}

pub fed_own : (slack : ℕ) (w : World) (f : Fed) → Typed f → Own slack w → Own slack (fed slack w f).world
unfolding fed
fed_own slack w (call c) t o = own_kept slack w o c t
fed_own slack w (run xs first) t o = run_own slack w xs first t o

module _ (wide narrow : ℕ) (less : narrow < wide) (w v : World) (o : Own wide w) (o' : Own narrow v) where
  -- the far sides, parted or not
  pub fed_far : (f : Fed) → Typed f → FarAlike wide narrow w v → FarAlike wide narrow (fed wide w f).world (fed narrow v f).world
  unfolding fed
  fed_far (call c) t h = far_alike_always wide narrow less w v h o o' c t
  fed_far (run xs first) t h = run_far wide narrow w v xs first h

  pub fed_anew : (f : Fed) → anew f ≡ true → FarAlike wide narrow w v → Agree wide narrow (fed wide w f).world (fed narrow v f).world
  unfolding fed
  fed_anew (call c) e h = rearm_agrees wide narrow less w v h o o' c e
  fed_anew (run xs first) e h = absurd (false≢true e)

  pub fed_always : (f : Fed) → common f ≡ true → FarAlike wide narrow w v → (fed narrow v f).answer ≡ (fed wide w f).answer
  unfolding fed
  fed_always (call c) e h = ap says (answers_always wide narrow less w v h o o' c e)
  fed_always (run xs first) e h = absurd (false≢true e)

  module _ (test : World → Bool) (p : Parts wide narrow test) (h : Agree wide narrow w v) where
    -- no parting: the answers are equal, and the two agree again
    pub fed_equal : (f : Fed) → Typed f → parts_at test w f ≡ false → (fed narrow v f).answer ≡ (fed wide w f).answer
    unfolding fed
    fed_equal (call c) t n = ap says (agrees_by wide narrow less w v h o o' test p c t n).response
    fed_equal (run xs first) t n = ap (λ (r : Handed). counts r.answer) (run_answers wide narrow w v h o o' xs first)

    pub fed_agrees : (f : Fed) → Typed f → parts_at test w f ≡ false → Agree wide narrow (fed wide w f).world (fed narrow v f).world
    unfolding fed
    fed_agrees (call c) t n = (agrees_by wide narrow less w v h o o' test p c t n).agree
    fed_agrees (run xs first) t n = run_agrees wide narrow w v h o o' xs first

    -- at one the narrow scan says uncovered
    pub fed_uncovered : (f : Fed) → parts_at test w f ≡ true → (fed narrow v f).answer ≡ says (scores (scoring.Frame frame.Uncovered 0))
    unfolding fed
    fed_uncovered (call c) e = ap says (uncovered_by wide narrow less w v h o o' test p c e)
    fed_uncovered (run xs first) e = absurd (false≢true e)
