-- Demand 3 and the agreement of the code: what happened is what the rules say (Followed), and of those crates scan_panel and scan_panel_agrees speak.
use Prim.Native.Nat.{ℕ}
use mathlib.Core.Path.{◌≡◌, refl, sym, ap, ap₂, ◌∙◌, subst, subst₂}
use mathlib.Core.List.{List}
use mathlib.Core.Bool.{Bool, true, false}
use lib.ListN.{length, take}
use borrow.Author.Tests.{eqb-false}
use Rattle.answers.specs.Refusals.{none, outside_table}
use Rattle.answers.proofs.Refusals.{passed}
use Rattle.scan.specs.Bins.{full_slack}
use Rattle.scan.specs.State.{Buffers, World}
use Rattle.scan.specs.Calls.{Restart}
use Rattle.scan.specs.Steps.{score, rearm, reset, deed, refusal_of, changes, scores, Step}
use Rattle.scan.specs.Streams.{Stream, facts_of, from_these_alone}
use Rattle.scan.specs.declared.Scoring.TheVariants as scoring
use Rattle.scan.specs.declared.Frame.TheVariants as frame
use Rattle.scan.proofs.Laws.{if_refused_case}
use Rattle.scan_panel.specs.Panel.{panel_slack, panel_table, allows, panel_making_refusal, panel_made, panel_called, panel_making}
use Rattle.scan_panel.specs.Feeds.{Fed, call, Answer, says, Feeding, fed, panel_fed, AllTyped, panel_after, panel_answers}
use Rattle.scan_panel.specs.Streams.{items_in, spelled_in, panel_resumed}
use Rattle.scan_panel.proofs.Panel.{panel_refused}
use Rattle.scan_panel.proofs.Streams.{panel_forgets}
use Rattle.scan_panel_agrees.specs.Agreement.{parting, anew, until, full_after, full_answers, full_new, panel_new}
use Rattle.scan_panel_agrees.proofs.Lists.{agrees_from_new, agrees_anew, uncovered_there}
use Rattle.scan_panel_code.specs.Happened.{refusal_in, PanelHappened, FullHappened, PanelInTurn, FullInTurn}
use Rattle.scan_panel_code.specs.Statement.{PanelBegun, made, afresh, PanelCodeForgets, BothFed, CodeAgrees, CodeUncovered, CodeAgreesAnew}
use Rattle.scan_panel_code.proofs.Followed.{panel_happened, full_happened, panel_made_is, full_made_is, panel_in_turn, full_in_turn}

-- ---- demand 3

-- an accepted making was one of allowed settings
made_table : (rate ceiling : ℕ) (b : Buffers) → refusal_of (panel_making rate ceiling b).response ≡ none → panel_table rate ceiling ≡ true
unfolding panel_making panel_made panel_making_refusal
made_table rate ceiling b =
    if_refused_case (λ (p : Restart). refusal_of (changes p.changed.answer) ≡ none → panel_table rate ceiling ≡ true) (panel_making_refusal rate ceiling b.envelope b.lag_sums) _ _ (λ r e. absurd (r e))
    (λ z e. (passed (panel_table rate ceiling) 0 _ z).0)

-- so was an accepted reset
accepted_allows : (w : World) → refusal_of (panel_called w (deed reset)).response ≡ none → allows w.scan ≡ true
accepted_allows w a = go (allows w.scan) refl
  where
    go : (b : Bool) → allows w.scan ≡ b → b ≡ true
    go true t = refl
    go false t = let z : ◌≡◌ {A = ℕ} outside_table none = sym (panel_refused w (deed reset) t).number ∙ a in absurd (eqb-false outside_table none refl z)

begun_table : {rate ceiling : ℕ} {v : World} → PanelBegun rate ceiling v → panel_table rate ceiling ≡ true
unfolding panel_fed
begun_table {rate} {ceiling} (made {b} h a) = made_table rate ceiling b (ap (λ (z : Step). refusal_of z.response) (panel_made_is h) ∙ a)
begun_table (afresh {w} p q h a) =
    ap₂ {A = ℕ} {B = ℕ} panel_table (sym p) (sym q) ∙ accepted_allows w (ap (λ (z : Feeding). refusal_in z.answer) (panel_happened h) ∙ a)

pub panel_code_forgets : PanelCodeForgets
panel_code_forgets rate ceiling block v e u x earlier later told since r =
    let b = panel_in_turn r.before in
    let s : panel_resumed v earlier ≡ u = ap (λ (z : World). (panel_fed z (call (deed rearm))).world) b.0 ∙ ap (λ (z : Feeding). z.world) (panel_happened r.rearm) in
    let told' = (panel_in_turn r.after).1 in
    ap (spelled_in u later) (sym told')
    ∙ subst (λ (z : World). Stream panel_slack rate ceiling block v (items_in v earlier) (items_in z later) → spelled_in z later (panel_answers z later) ≡ from_these_alone panel_slack (facts_of panel_slack rate ceiling block v (items_in v earlier) (items_in z later))) s
    (panel_forgets rate ceiling block v earlier later (begun_table r.begun) r.typed r.typed_since) r.stream

-- ---- agreement

module _ (rate ceiling : ℕ) (lent lent' : Buffers) (w v w' v' : World) (calls : List Fed) (told told' : List Answer) (b : BothFed rate ceiling lent lent' w v w' v' calls told told') where
  full_begins : full_new rate ceiling lent ≡ w
  full_begins = ap (λ (z : Step). z.world) (full_made_is b.full)

  panel_begins : panel_new rate ceiling lent' ≡ v
  panel_begins = ap (λ (z : Step). z.world) (panel_made_is b.panel)

  full_leads : full_after (full_new rate ceiling lent) calls ≡ w'
  full_leads = ap (λ (z : World). full_after z calls) full_begins ∙ (full_in_turn b.full_calls).0

  panel_leads : panel_after (panel_new rate ceiling lent') calls ≡ v'
  panel_leads = ap (λ (z : World). panel_after z calls) panel_begins ∙ (panel_in_turn b.panel_calls).0

  equal_told : take (until (parting full_slack panel_slack) w calls) told' ≡ take (until (parting full_slack panel_slack) w calls) told
  equal_told =
      subst₂ (λ (x y : List Answer). take (until (parting full_slack panel_slack) w calls) x ≡ take (until (parting full_slack panel_slack) w calls) y) (panel_in_turn b.panel_calls).1 (full_in_turn b.full_calls).1
      (subst₂ (λ (x y : World). take (until (parting full_slack panel_slack) x calls) (panel_answers y calls) ≡ take (until (parting full_slack panel_slack) x calls) (full_answers x calls)) full_begins panel_begins
      (agrees_from_new rate ceiling lent lent' b.start calls b.typed))

  says_uncovered : until (parting full_slack panel_slack) w calls ≡ length calls → parting full_slack panel_slack w' ≡ true
      → (a : Answer) (x : World) → PanelHappened v' (call (deed score)) a x → a ≡ says (scores (scoring.Frame frame.Uncovered 0))
  says_uncovered e p a x h =
      sym (ap (λ (z : Feeding). z.answer) (panel_happened h))
      ∙ ap (λ (z : World). (panel_fed z (call (deed score))).answer) (sym panel_leads)
      ∙ uncovered_there rate ceiling lent lent' b.start calls b.typed (ap (λ (z : World). until (parting full_slack panel_slack) z calls) full_begins ∙ e) (ap (parting full_slack panel_slack) full_leads ∙ p)

  equal_anew : (f : Fed) (a a' : Answer) (x y x' y' : World) (later : List Fed) (since since' : List Answer) → anew f ≡ true → FullHappened w' f a x → PanelHappened v' f a' y
      → FullInTurn x later since x' → PanelInTurn y later since' y' → AllTyped later
      → take (until (parting full_slack panel_slack) x later) since' ≡ take (until (parting full_slack panel_slack) x later) since
  equal_anew f a a' x y x' y' later since since' e h h' t t' u =
      let p : (fed full_slack (full_after (full_new rate ceiling lent) calls) f).world ≡ x = ap (λ (z : World). (fed full_slack z f).world) full_leads ∙ ap (λ (z : Feeding). z.world) (full_happened h) in
      let q : (panel_fed (panel_after (panel_new rate ceiling lent') calls) f).world ≡ y = ap (λ (z : World). (panel_fed z f).world) panel_leads ∙ ap (λ (z : Feeding). z.world) (panel_happened h') in
      subst₂ (λ (k l : List Answer). take (until (parting full_slack panel_slack) x later) k ≡ take (until (parting full_slack panel_slack) x later) l) (panel_in_turn t').1 (full_in_turn t).1
      (subst₂ (λ (k l : World). take (until (parting full_slack panel_slack) k later) (panel_answers l later) ≡ take (until (parting full_slack panel_slack) k later) (full_answers k later)) p q
      (agrees_anew rate ceiling lent lent' b.start calls later f e b.typed u))

pub code_agrees : CodeAgrees
code_agrees = equal_told

pub code_uncovered : CodeUncovered
code_uncovered = says_uncovered

pub code_agrees_anew : CodeAgreesAnew
code_agrees_anew = equal_anew
