-- Any call of a sound pair, as channel d sees it: a call of its scan, or one that changes at most the scratch (`stepped`). What each channel sees stays sound (`stays_sound`).
use Prim.Native.Nat.{ℕ}
use mathlib.Core.Path.{◌≡◌, refl, sym, ◌∙◌, subst}
use Rattle.scan.specs.State.{World}
use Rattle.scan.specs.Steps.{deed, called}
use Rattle.scan.specs.Steps as base
use Rattle.scan.specs.Streams.{FairDeed}
use Rattle.scan.proofs.Sound.{Sound, rules_hold}
use Rattle.scan.proofs.Keeps.{called_sound}
use Rattle.scan.proofs.Fresh.{reset_sound}
use Rattle.scan.proofs.Scratch.{ScratchAlike, lending, around}
use Rattle.scan_pair.specs.State.{Side, first, second, other, Named, channel, unknown, named, PairWorld, seen}
use Rattle.scan_pair.specs.Steps.{Own, near, score, rearm, discard, ask, PairCall, on, far, reset, settings, as_deed, PairStep, own_called, pair_called}
use Rattle.scan_pair.specs.Streams.{Share, its, others, own_share, share, F32Own, PairF32Call}
use Rattle.scan_pair.proofs.Channels.{ByItsOwn, by_its_own, other_stays, stays_alike, unknown_refused}
use Rattle.scan_pair.proofs.Together.{PairSound, far_together, setting_together, reset_together, reset_accepts}

-- ---- worlds that differ at most in the scratch

pub alike_same : (w : World) → ScratchAlike w w
alike_same w = record { scan = refl; envelope = refl; levels = refl; lag_sums = refl; lengths = record { window = refl; prefix = refl; squares = refl; scores = refl } }

-- two that are alike to a third
pub alike_between : (u w v : World) → ScratchAlike u w → ScratchAlike u v → ScratchAlike w v
alike_between u w v h k =
    record {
      scan = k.scan ∙ sym h.scan;
      envelope = k.envelope ∙ sym h.envelope;
      levels = k.levels ∙ sym h.levels;
      lag_sums = k.lag_sums ∙ sym h.lag_sums;
      lengths =
          record {
            window = k.lengths.window ∙ sym h.lengths.window;
            prefix = k.lengths.prefix ∙ sym h.lengths.prefix;
            squares = k.lengths.squares ∙ sym h.lengths.squares;
            scores = k.lengths.scores ∙ sym h.lengths.scores;
          };
    }

pub alike_then : (u w v : World) → ScratchAlike u w → ScratchAlike w v → ScratchAlike u v
alike_then u w v h k = alike_between w u v (alike_between u w u h (alike_same u)) k

pub is_lending : (w v : World) → ScratchAlike w v → v ≡ lending w v.buffers
is_lending w v h = λ i. record { scan = h.scan i; buffers = around v.buffers (h.envelope i) (h.levels i) (h.lag_sums i) }

-- soundness says nothing of the scratch
sound_alike : (slack : ℕ) (w v : World) → ScratchAlike w v → Sound slack w → Sound slack v
sound_alike slack w v h s = subst (Sound slack) (sym (is_lending w v h)) (record { allowed = s.allowed; far = s.far; near = s.near; verdict = s.verdict; lag_sums = s.lag_sums })

-- ---- one call

abbrev pub Stepped : ℕ → PairWorld → Side → PairStep → Share → Type 0
Stepped slack w d s (its c) = ByItsOwn d s (called slack (seen w d) c)
Stepped slack w d s others = ScratchAlike (seen w d) (seen s.world d)

module _ (slack : ℕ) (w : PairWorld) where
  pub unknown_alike : (d : Side) (k : Own) → ScratchAlike (seen w d) (seen (own_called slack w unknown k).world d)
  unknown_alike d k = subst (λ (v : PairWorld). ScratchAlike (seen w d) (seen v d)) (sym (unknown_refused slack w k).world) (alike_same (seen w d))

  pub other_alike : (d : Side) (k : Own) → ScratchAlike (seen w (other d)) (seen (own_called slack w (channel d) k).world (other d))
  other_alike d k = stays_alike (other d) w _ (other_stays slack w d k)

  own_stepped : (d : Side) (n : Named) (k : Own) → Stepped slack w d (own_called slack w n k) (own_share d n k)
  own_stepped first (channel first) k = by_its_own slack w first k
  own_stepped first (channel second) k = other_alike second k
  own_stepped second (channel first) k = other_alike first k
  own_stepped second (channel second) k = by_its_own slack w second k
  own_stepped first unknown k = unknown_alike first k
  own_stepped second unknown k = unknown_alike second k

  pub fair_own : (v : World) (k : Own) → F32Own k → FairDeed slack v (as_deed k)
  fair_own v (near x index) f = f
  fair_own v score f = tt
  fair_own v rearm f = tt
  fair_own v discard f = tt
  fair_own v (ask r) f = tt

  module _ (s : PairSound slack w) where
    pub stepped : (d : Side) (c : PairCall) → Stepped slack w d (pair_called slack w c) (share d c)
    unfolding share
    stepped d (on c k) = (unfold pair_called in own_stepped d (named c) k)
    stepped d (far xs) = far_together slack w d xs (rules_hold slack (seen w d) (s d))
    stepped d reset = reset_together slack w d (reset_accepts slack w s)
    stepped d (settings r) = setting_together slack w d (rules_hold slack (seen w d) (s d)) r

    own_sound : (d : Side) (n : Named) (k : Own) → F32Own k → Sound slack (seen (own_called slack w n k).world d)
    own_sound first (channel first) k f = subst (Sound slack) (sym (by_its_own slack w first k).world) (called_sound slack (seen w first) (s first) (deed (as_deed k)) (fair_own (seen w first) k f))
    own_sound first (channel second) k f = sound_alike slack (seen w first) _ (other_alike second k) (s first)
    own_sound second (channel first) k f = sound_alike slack (seen w second) _ (other_alike first k) (s second)
    own_sound second (channel second) k f = subst (Sound slack) (sym (by_its_own slack w second k).world) (called_sound slack (seen w second) (s second) (deed (as_deed k)) (fair_own (seen w second) k f))
    own_sound first unknown k f = sound_alike slack (seen w first) _ (unknown_alike first k) (s first)
    own_sound second unknown k f = sound_alike slack (seen w second) _ (unknown_alike second k) (s second)

    pub stays_sound : (c : PairCall) → PairF32Call c → PairSound slack (pair_called slack w c).world
    stays_sound (on c k) f d = (unfold pair_called in own_sound d (named c) k f)
    stays_sound (far xs) f d = subst (Sound slack) (sym (far_together slack w d xs (rules_hold slack (seen w d) (s d))).world) (called_sound slack (seen w d) (s d) (base.far xs) f)
    stays_sound reset f d = subst (Sound slack) (sym (reset_together slack w d (reset_accepts slack w s)).world) (reset_sound slack (seen w d) (s d))
    stays_sound (settings r) f d = (unfold pair_called in s d)
