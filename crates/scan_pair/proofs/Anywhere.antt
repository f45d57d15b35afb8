-- Of any pair, broken or not: what a channel's calls and the far pushes are answered does not depend on the other channel, nor on its calls.
use Prim.Native.Nat.{ℕ}
use mathlib.Core.Path.{◌≡◌, refl, sym, ap, ◌∙◌, subst₂}
use mathlib.Core.List.{List, [], ◌∷◌}
use lib.Ieee.{Float}
use Rattle.scan.specs.State.{World, new_near, new_verdict}
use Rattle.scan.specs.Calls.{FarPush, with_far, pushed_far}
use Rattle.scan.specs.Steps.{Response, changes, deed}
use Rattle.scan.proofs.Scratch.{ScratchAlike, called_scratch}
use Rattle.scan_pair.specs.State.{Side, first, second, other, Named, channel, unknown, named, PairWorld, common, seen}
use Rattle.scan_pair.specs.Calls.{pair_far, pair_bin_samples, pair_ceiling_samples}
use Rattle.scan_pair.specs.Steps.{Own, as_deed, Setting, bin_samples_report, ceiling_samples_report, on, far, reset, settings, setting_reported, PairStep, own_called, pair_called}
use Rattle.scan_pair.specs.Streams.{PairItem, own, foreign, its, own_share, share, with_answer, answers_to, unless_named, without, NoResetIn, ApartAnywhere}
use Rattle.scan_pair.proofs.Channels.{by_its_own}
use Rattle.scan_pair.proofs.Together.{far_seen}
use Rattle.scan_pair.proofs.Steps.{alike_same, alike_between, alike_then, other_alike, unknown_alike}

-- the same answer, and worlds that channel d cannot tell apart
record Moves (d : Side) (s t : PairStep) : Type 0 where
  response : s.response ≡ t.response
  world : ScratchAlike (seen s.world d) (seen t.world d)

module _ (slack : ℕ) (d : Side) (w v : PairWorld) (h : ScratchAlike (seen w d) (seen v d)) where
  same_common : common w.pair ≡ common v.pair
  same_common = λ i. record { geometry = (sym h.scan i).geometry; far = (sym h.scan i).far; near = new_near; verdict = new_verdict }

  own_moves : (k : Own) → Moves d (own_called slack w (channel d) k) (own_called slack v (channel d) k)
  own_moves k =
      let a = by_its_own slack w d k in
      let b = by_its_own slack v d k in
      let q = called_scratch slack (seen w d) (seen v d) (deed (as_deed k)) h in
      record {
        response = a.response ∙ sym q.response ∙ sym b.response;
        world = subst₂ (λ (x y : World). ScratchAlike x y) (sym a.world) (sym b.world) q.world;
      }

  far_moves : (xs : List Float) → Moves d (pair_called slack w (far xs)) (pair_called slack v (far xs))
  unfolding pair_called pair_far
  far_moves xs =
      let e : pushed_far slack (common v.pair) v.buffers.envelope xs ≡ pushed_far slack (common w.pair) w.buffers.envelope xs = λ i. pushed_far slack (sym same_common i) (h.envelope i) xs in
      record {
        response = ap (λ (q : FarPush). changes q.changed.answer) (sym e);
        world =
            subst₂ (λ (x y : World). ScratchAlike x y) (sym (far_seen w d _ _)) (sym (far_seen v d _ _))
            (record {
              scan = λ i. with_far (h.scan i) (e i).changed.scan.far;
              envelope = λ i. (e i).envelope;
              levels = h.levels;
              lag_sums = h.lag_sums;
              lengths = record { window = h.lengths.window; prefix = h.lengths.prefix; squares = h.lengths.squares; scores = h.lengths.scores };
            });
      }

  setting_moves : (r : Setting) → Moves d (pair_called slack w (settings r)) (pair_called slack v (settings r))
  unfolding pair_called
  setting_moves r = record { response = same r; world = h }
    where
      same : (r : Setting) → setting_reported w.pair r ≡ setting_reported v.pair r
      same bin_samples_report = (unfold pair_bin_samples in rw same_common)
      same ceiling_samples_report = (unfold pair_ceiling_samples in rw same_common)

-- ---- lists

-- one answer more on both sides
also : {a b : Response} {l m : List Response} → a ≡ b → l ≡ m → ◌≡◌ {A = List Response} (a ∷ l) (b ∷ m)
also p q = λ i. p i ∷ q i

module _ (slack c : ℕ) (k : Own) (items rest : List PairItem) where
  -- what a call that names n comes to
  called_as : (d : Side) (v : PairWorld) (n : Named) → named c ≡ n
      → answers_to d slack v (own (on c k) ∷ rest) ≡ with_answer (own_share d n k) (own_called slack v n k).response (answers_to d slack (own_called slack v n k).world rest)
  unfolding answers_to share pair_called
  called_as d v n e = ap (λ (m : Named). with_answer (own_share d m k) (own_called slack v m k).response (answers_to d slack (own_called slack v m k).world rest)) e

  module _ (d : Side) (w v : PairWorld) (h : ScratchAlike (seen w d) (seen v d)) (go : (w' v' : PairWorld) → ScratchAlike (seen w' d) (seen v' d) → answers_to d slack w' items ≡ answers_to d slack v' rest) where
    of_its_own : with_answer (its (deed (as_deed k))) (own_called slack w (channel d) k).response (answers_to d slack (own_called slack w (channel d) k).world items)
        ≡ with_answer (its (deed (as_deed k))) (own_called slack v (channel d) k).response (answers_to d slack (own_called slack v (channel d) k).world rest)
    of_its_own = let m = own_moves slack d w v h k in also m.response (go _ _ m.world)

    of_none : answers_to d slack (own_called slack w unknown k).world items ≡ answers_to d slack (own_called slack v unknown k).world rest
    of_none = go _ _ (alike_between (seen w d) _ _ (unknown_alike slack w d k) (alike_then (seen w d) (seen v d) _ h (unknown_alike slack v d k)))

  one_less : (d : Side) (w v : PairWorld) → ScratchAlike (seen w d) (seen v d) → ((w' v' : PairWorld) → ScratchAlike (seen w' d) (seen v' d) → answers_to d slack w' items ≡ answers_to d slack v' rest) → (n : Named) → named c ≡ n
      → with_answer (own_share d n k) (own_called slack w n k).response (answers_to d slack (own_called slack w n k).world items) ≡ answers_to d slack v (unless_named (other d) n (own (on c k)) rest)
  one_less first w v h go (channel first) e = of_its_own first w v h go ∙ sym (called_as first v (channel first) e)
  one_less first w v h go (channel second) e = go _ _ (alike_between (seen w first) _ _ (other_alike slack w second k) h)
  one_less second w v h go (channel first) e = go _ _ (alike_between (seen w second) _ _ (other_alike slack w first k) h)
  one_less second w v h go (channel second) e = of_its_own second w v h go ∙ sym (called_as second v (channel second) e)
  one_less first w v h go unknown e = of_none first w v h go ∙ sym (called_as first v unknown e)
  one_less second w v h go unknown e = of_none second w v h go ∙ sym (called_as second v unknown e)

-- from two pairs that channel d cannot tell apart
pub apart_from : (slack : ℕ) (d : Side) (items : List PairItem) (w v : PairWorld) → ScratchAlike (seen w d) (seen v d) → NoResetIn items → answers_to d slack w items ≡ answers_to d slack v (without (other d) items)
unfolding answers_to without share pair_called
apart_from slack d [] w v h n = refl
apart_from slack d (own (on c k) ∷ items) w v h n = one_less slack c k items (without (other d) items) d w v h (λ w' v' h'. apart_from slack d items w' v' h' n) (named c) refl
apart_from slack d (own (far xs) ∷ items) w v h n = let m = far_moves slack d w v h xs in also m.response (apart_from slack d items _ _ m.world n)
apart_from slack d (own reset ∷ items) w v h n = absurd n
apart_from slack d (own (settings r) ∷ items) w v h n = let m = setting_moves slack d w v h r in also m.response (apart_from slack d items _ _ m.world n)
apart_from slack d (foreign x c ∷ items) w v h n = apart_from slack d items w v h n

pub apart_anywhere : ApartAnywhere
apart_anywhere slack d w items n = apart_from slack d items w w (alike_same (seen w d)) n
