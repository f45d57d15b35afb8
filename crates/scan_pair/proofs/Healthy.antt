-- The pair's own state is never broken, since what each channel sees never is.
use Prim.Native.Nat.{ℕ}
use mathlib.Core.Path.{◌≡◌, sym, ap, ◌∙◌, subst}
use mathlib.Core.List.{List}
use native.Mathlib.Omega.{arith}
use Rattle.answers.specs.Refusals.{not_finite}
use Rattle.scan.specs.State.{World}
use Rattle.scan.specs.Steps.{Call, deed, Response, refusal_of, called}
use Rattle.scan.specs.Steps as base
use Rattle.scan.specs.Streams.{after}
use Rattle.scan.specs.Health.{Healthy}
use Rattle.scan.proofs.Scratch.{ScratchAlike, called_scratch, lending}
use Rattle.scan.proofs.Sound.{rules_hold}
use Rattle.scan.proofs.Healthy as scan
use Rattle.scan_pair.specs.State.{Side, first, Named, channel, unknown, named, PairWorld, seen}
use Rattle.scan_pair.specs.Steps.{Own, score, PairCall, on, far, reset, settings, as_setting, as_deed, own_called, pair_called}
use Rattle.scan_pair.specs.Streams.{PairItem, pair_after, items_of, PairFair, PairBegan, PairStaysHealthy, PairNeverBroken, PairNeverUnreadable, PairRearmsAlways}
use Rattle.scan_pair.proofs.Channels.{by_its_own, unknown_refused}
use Rattle.scan_pair.proofs.Together.{PairSound, far_together, setting_together, reset_accepts}
use Rattle.scan_pair.proofs.Steps.{alike_same, is_lending}
use Rattle.scan_pair.proofs.Projects.{ProjectedBy, projects, sound_after}
use Rattle.scan_pair.proofs.Began.{began_each, began_sound, fair_f32}
use Rattle.scan_pair.proofs.Forgets.{rearm_own}

-- health says nothing of the scratch
healthy_alike : (w v : World) → ScratchAlike w v → Healthy v → Healthy w
healthy_alike w v a h =
    let k : Healthy (lending w v.buffers) = subst Healthy (is_lending w v a) h in
    record { rules = k.rules; far_sum = k.far_sum; near_sum = k.near_sum; far_levels = k.far_levels; near_levels = k.near_levels; lag_sums = k.lag_sums }

abbrev Fine : ℕ → Type 0
Fine n = (n ≡ 1 → ⊥) × (n ≡ 3 → ⊥)

module _ (slack rate ceiling : ℕ) (w : PairWorld) (items : List PairItem) (b : PairBegan slack rate ceiling w) (f : PairFair slack w items) where
  abbrev left : PairWorld
  left = pair_after slack w items

  sound : PairSound slack left
  sound = sound_after slack items w (began_sound slack rate ceiling w b) (fair_f32 slack items w f)

  part : (d : Side) → ProjectedBy slack d w items (seen w d)
  part d = projects slack d items w (seen w d) (began_sound slack rate ceiling w b) (fair_f32 slack items w f) (alike_same (seen w d))

  -- what each channel's scan answers
  answer : (d : Side) (c : Call) → (called slack (after slack (seen w d) (items_of d items)) c).response ≡ (called slack (seen left d) c).response
  answer d c = (called_scratch slack (seen left d) (after slack (seen w d) (items_of d items)) c (part d).left_alike).response

  fine_each : (d : Side) (c : Call) → Fine (refusal_of (called slack (seen left d) c).response)
  fine_each d c = subst (λ (a : Response). Fine (refusal_of a)) (answer d c) (scan.never_broken slack rate ceiling (seen w d) (items_of d items) (began_each slack rate ceiling d w b) ((part d).fair_too f) c)

  fine_own : (n : Named) (k : Own) → Fine (refusal_of (own_called slack left n k).response)
  fine_own (channel d) k = subst (λ (a : Response). Fine (refusal_of a)) (sym (by_its_own slack left d k).response) (fine_each d (deed (as_deed k)))
  fine_own unknown k = let e = (unknown_refused slack left k).number in ((λ z. omega arith), λ z. omega arith)

  fine : (c : PairCall) → Fine (refusal_of (pair_called slack left c).response)
  fine (on c k) = (unfold pair_called in fine_own (named c) k)
  fine (far xs) = subst (λ (a : Response). Fine (refusal_of a)) (sym (far_together slack left first xs (rules_hold slack (seen left first) (sound first))).response) (fine_each first (base.far xs))
  fine reset = let e = reset_accepts slack left sound in ((λ z. omega arith), λ z. omega arith)
  fine (settings r) = subst (λ (a : Response). Fine (refusal_of a)) (sym (setting_together slack left first (rules_hold slack (seen left first) (sound first)) r).response) (fine_each first (deed (base.ask (as_setting r))))

  abbrev Reads : ℕ → Type 0
  Reads n = n ≡ not_finite → ⊥

  reads : (n : Named) → Reads (refusal_of (own_called slack left n score).response)
  reads (channel d) =
      subst (λ (a : Response). Reads (refusal_of a)) (answer d (deed base.score) ∙ sym (by_its_own slack left d score).response)
      (scan.never_unreadable slack rate ceiling (seen w d) (items_of d items) (began_each slack rate ceiling d w b) ((part d).fair_too f))
  reads unknown = let e = (unknown_refused slack left score).number in λ z. omega arith

-- ---- the statements

pub pair_stays_healthy : PairStaysHealthy
pair_stays_healthy slack rate ceiling d w items b f =
    let o = part slack rate ceiling w items b f d in
    healthy_alike _ _ o.left_alike (scan.stays_healthy slack rate ceiling (seen w d) (items_of d items) (began_each slack rate ceiling d w b) (o.fair_too f))

pub pair_never_broken : PairNeverBroken
pair_never_broken slack rate ceiling w items b f c = fine slack rate ceiling w items b f c

pub pair_never_unreadable : PairNeverUnreadable
pair_never_unreadable slack rate ceiling c w items b f = (unfold pair_called in reads slack rate ceiling w items b f (named c))

pub pair_rearms_always : PairRearmsAlways
pair_rearms_always slack rate ceiling d w items b f =
    ap refusal_of ((rearm_own slack (pair_after slack w items) d).response ∙ sym (answer slack rate ceiling w items b f d (deed base.rearm)))
    ∙ scan.rearms_always slack rate ceiling (seen w d) (items_of d items) (began_each slack rate ceiling d w b) ((part slack rate ceiling w items b f d).fair_too f)
