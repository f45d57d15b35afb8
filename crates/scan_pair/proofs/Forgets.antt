-- "Demand 3 then holds for each channel by itself, the other's calls not counting among its own."
use Prim.Native.Nat.{ℕ}
use mathlib.Core.Path.{◌≡◌, sym, ap, ◌∙◌, subst}
use mathlib.Core.List.{List}
use Rattle.scan.specs.State.{World}
use Rattle.scan.specs.Steps.{deed, refusal_of, called}
use Rattle.scan.specs.Steps as base
use Rattle.scan.specs.Streams.{Item, after, Stream, lengths_of, first_known, early_of, late_of, from_these_alone, resumed, facts_of}
use Rattle.scan.proofs.Scratch.{ScratchAlike, ScratchSteps, called_scratch}
use Rattle.scan.proofs.Forgets.{forgets}
use Rattle.scan_pair.specs.State.{Side, Named, PairWorld, seen}
use Rattle.scan_pair.specs.Steps.{rearm, own_called, pair_called}
use Rattle.scan_pair.specs.Streams.{PairItem, pair_after, items_of, rearm_of, pair_resumed, PairStream, pair_facts_of, PairForgets, PairForgetsTwo}
use Rattle.scan_pair.proofs.Channels.{named_own, ByItsOwn, by_its_own}
use Rattle.scan_pair.proofs.Together.{PairSound}
use Rattle.scan_pair.proofs.Steps.{alike_same, stays_sound}
use Rattle.scan_pair.proofs.Projects.{ProjectedBy, projects, sound_after}
use Rattle.scan_pair.proofs.Began.{began_each, began_sound, fair_f32}

pub rearm_own : (slack : ℕ) (w : PairWorld) (d : Side) → ByItsOwn d (pair_called slack w (rearm_of d)) (called slack (seen w d) (deed base.rearm))
unfolding pair_called
rearm_own slack w d = subst (λ (n : Named). ByItsOwn d (own_called slack w n rearm) (called slack (seen w d) (deed base.rearm))) (sym (named_own d)) (by_its_own slack w d rearm)

module _ (d : Side) (slack rate ceiling block : ℕ) (w : PairWorld) (earlier later : List PairItem) (s : PairStream d slack rate ceiling block w earlier later) where
  -- the scan that channel d sees, and its calls
  abbrev v : World
  v = seen w d

  abbrev before : List Item
  before = items_of d earlier

  abbrev since : List Item
  since = items_of d later

  sound : PairSound slack w
  sound = began_sound slack rate ceiling w s.began

  -- before the rearm
  first_part : ProjectedBy slack d w earlier v
  first_part = projects slack d earlier w v sound (fair_f32 slack earlier w s.fair) (alike_same v)

  rearm_alike : ScratchSteps (called slack (seen (pair_after slack w earlier) d) (deed base.rearm)) (called slack (after slack v before) (deed base.rearm))
  rearm_alike = called_scratch slack (seen (pair_after slack w earlier) d) (after slack v before) (deed base.rearm) first_part.left_alike

  -- and since
  second_part : ProjectedBy slack d (pair_resumed d slack w earlier) later (resumed slack v before)
  second_part =
      projects slack d later (pair_resumed d slack w earlier) (resumed slack v before)
      (stays_sound slack (pair_after slack w earlier) (sound_after slack earlier w sound (fair_f32 slack earlier w s.fair)) (rearm_of d) tt)
      (fair_f32 slack later (pair_resumed d slack w earlier) s.fair_since)
      (subst (λ (u : World). ScratchAlike u (resumed slack v before)) (sym (rearm_own slack (pair_after slack w earlier) d).world) rearm_alike.world)

  its_stream : Stream slack rate ceiling block v before since
  its_stream =
      record {
        began = began_each slack rate ceiling d w s.began;
        fair = first_part.fair_too s.fair;
        rearms = ap refusal_of (rearm_alike.response ∙ sym (rearm_own slack (pair_after slack w earlier) d).response) ∙ s.rearms;
        fair_since = second_part.fair_too s.fair_since;
        late = second_part.late_too block s.late;
      }

  same_facts : facts_of slack rate ceiling block v before since ≡ pair_facts_of d slack rate ceiling block w earlier later
  same_facts =
      sym (λ i. record {
        rate = rate;
        ceiling = ceiling;
        lengths = lengths_of v.buffers;
        early = early_of (first_known rate block) 0 (first_part.brought_same i);
        late = late_of (first_known rate block) 0 (first_part.brought_same i);
        calls = second_part.calls_same (first_known rate block) i;
      })

pub pair_forgets : PairForgets
pair_forgets d slack rate ceiling block w earlier later s =
    (second_part d slack rate ceiling block w earlier later s).said_same
    ∙ forgets slack rate ceiling block (seen w d) (items_of d earlier) (items_of d later) (its_stream d slack rate ceiling block w earlier later s)
    ∙ ap (from_these_alone slack) (same_facts d slack rate ceiling block w earlier later s)

pub pair_forgets_two : PairForgetsTwo
pair_forgets_two d d' slack rate ceiling block w w' earlier earlier' later later' s s' e =
    pair_forgets d slack rate ceiling block w earlier later s ∙ ap (from_these_alone slack) e ∙ sym (pair_forgets d' slack rate ceiling block w' earlier' later' s')
