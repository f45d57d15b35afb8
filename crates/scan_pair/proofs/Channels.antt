-- A call of one channel, of any state, broken or not: it goes by what that channel sees (`by_its_own`), and leaves the common part and the other channel (`other_stays`).
-- A number that names no channel is refused with 11, and nothing changes (`eleven`).
use Prim.Native.Nat.{ℕ, ◌≤◌, ◌<◌}
use mathlib.Core.Path.{◌≡◌, refl, sym, ◌∙◌, subst}
use native.Mathlib.Omega.{arith}
use lib.Dec.{eqb}
use lib.Ieee.{Float}
use borrow.Author.Tests.{eq-eqb, ne_eqb, eqb-false}
use Rattle.answers.specs.Pick.{pick, pick_true, pick_false, pick_case}
use Rattle.scan.specs.State.{World, finished}
use Rattle.scan.specs.Blocks.{dropped, held_at}
use Rattle.scan.specs.Scoring.{quiet, flat}
use Rattle.scan.specs.Calls.{NearPush, Observation, Clearing, clearing, near_refusal, pushed_near, frame_of, window_in, is_uncovered, is_ahead, score_refusal, counted_frame, judged, scored_frame, observed, clear_refusal, rearmed, discarded}
use Rattle.scan.specs.Steps.{Step, deed, refusal_of, called, reported}
use Rattle.scan.specs.declared.Scan.{Scan}
use Rattle.scan.proofs.Laws.{if_refused_case}
use Rattle.scan.proofs.Contracts.{near_step, score_step, clear_step}
use Rattle.scan.proofs.Scratch.{ScratchLengths, ScratchAlike, called_lengths}
use Rattle.scan_pair.specs.declared.Pair.{Pair}
use Rattle.scan_pair.specs.State.{Side, first, second, other, number_of, Named, channel, unknown, named, side_of, no_such_channel, PairWorld, chosen, own_buffers, seen, put_back}
use Rattle.scan_pair.specs.Calls.{left_in, pair_near, pair_observed, pair_rearmed, pair_discarded, pair_region, pair_beyond_ceiling, pair_frames, pair_correlation, pair_finished, pair_exhausted}
use Rattle.scan_pair.specs.Steps.{OwnReport, region, beyond_ceiling_report, frames, correlation, exhausted, Own, near, score, rearm, discard, ask, as_report, as_deed, PairStep, own_reported, own_called, on, pair_called}
use Rattle.scan_pair.specs.Steps

-- ---- what a call of a scan leaves alone, if it is no far push and no reset

pub record CommonKept (w v : World) : Type 0 where
  pub geometry : v.scan.geometry ≡ w.scan.geometry
  pub far : v.scan.far ≡ w.scan.far
  pub envelope : v.buffers.envelope ≡ w.buffers.envelope

module _ (slack : ℕ) (w : World) where
  kept : (v : World) → v.scan.geometry ≡ w.scan.geometry → v.scan.far ≡ w.scan.far → v.buffers.envelope ≡ w.buffers.envelope → CommonKept w v
  kept v g f e = record { geometry = g; far = f; envelope = e }

  near_kept : (x : Float) (index : ℕ) → CommonKept w (near_step w.buffers (pushed_near w.scan w.buffers.levels x index)).world
  unfolding pushed_near
  near_kept x index =
      if_refused_case P (near_refusal w.scan w.buffers.levels x index) _ _ (λ r. kept _ refl refl refl)
      (λ z. pick_case P (finished w.scan.verdict) _ _ (λ f. kept _ refl refl refl)
      (λ f. pick_case P (dropped w.scan.geometry (held_at w.scan.near index) index) _ _ (λ d. kept _ refl refl refl) (λ d. kept _ refl refl refl)))
    where
      P : NearPush → Type 0
      P q = CommonKept w (near_step w.buffers q).world

  score_kept : CommonKept w (score_step (observed slack w)).world
  unfolding observed scored_frame judged counted_frame
  score_kept =
      if_refused_case P (score_refusal slack w) _ _ (λ r. kept _ refl refl refl)
      (λ z. pick_case P (is_uncovered slack w) _ _ (λ u. kept _ refl refl refl)
      (λ u. pick_case P (is_ahead w) _ _ (λ a. kept _ refl refl refl)
      (λ a. pick_case P (quiet (window_in slack w)) _ _ (λ q. kept _ refl refl refl) (λ q. pick_case P (flat (frame_of w)) _ _ (λ l. kept _ refl refl refl) (λ l. kept _ refl refl refl)))))
    where
      P : Observation → Type 0
      P q = CommonKept w (score_step q).world

  clear_kept : (cleared : Scan) → cleared.geometry ≡ w.scan.geometry → cleared.far ≡ w.scan.far → CommonKept w (clear_step w.buffers (clearing w.scan w.buffers.lag_sums cleared)).world
  clear_kept cleared g f = if_refused_case (λ (q : Clearing). CommonKept w (clear_step w.buffers q).world) (clear_refusal w.scan w.buffers.lag_sums) _ _ (λ r. kept _ refl refl refl) (λ z. kept _ g f refl)

  pub common_kept : (k : Own) → CommonKept w (called slack w (deed (as_deed k))).world
  common_kept (near x index) = (unfold called in near_kept x index)
  common_kept score = (unfold called in score_kept)
  common_kept rearm = (unfold called rearmed in clear_kept _ refl refl)
  common_kept discard = (unfold called discarded in clear_kept _ refl refl)
  common_kept (ask r) = (unfold called in kept _ refl refl refl)

-- what is left in the pair where a call of channel d left v
abbrev pub leaves : PairWorld → Side → World → PairWorld
leaves w d v = record { pair = left_in w.pair d v.scan; buffers = put_back w.buffers d v.buffers }

-- ---- the other stays

-- the common part and all of channel e are as they were; the scratch buffers are as long
pub record Stays (e : Side) (w v : PairWorld) : Type 0 where
  pub geometry : v.pair.geometry ≡ w.pair.geometry
  pub far : v.pair.far ≡ w.pair.far
  pub channel : chosen v.pair e ≡ chosen w.pair e
  pub envelope : v.buffers.envelope ≡ w.buffers.envelope
  pub buffers : own_buffers v.buffers e ≡ own_buffers w.buffers e
  pub scratch : ScratchLengths (seen w e).buffers (seen v e).buffers

leaves_other : (w : PairWorld) (d : Side) (v : World) → ScratchLengths (seen w d).buffers v.buffers → Stays (other d) w (leaves w d v)
leaves_other w first v l = record { geometry = refl; far = refl; channel = refl; envelope = refl; buffers = refl; scratch = record { window = l.window; prefix = l.prefix; squares = l.squares; scores = l.scores } }
leaves_other w second v l = record { geometry = refl; far = refl; channel = refl; envelope = refl; buffers = refl; scratch = record { window = l.window; prefix = l.prefix; squares = l.squares; scores = l.scores } }

stays_same : (e : Side) (w : PairWorld) → Stays e w w
stays_same e w = record { geometry = refl; far = refl; channel = refl; envelope = refl; buffers = refl; scratch = record { window = refl; prefix = refl; squares = refl; scores = refl } }

-- "What one channel is fed, refused, rearmed or discarded must not change the other's answers, counts or reports."
pub other_stays : (slack : ℕ) (w : PairWorld) (d : Side) (k : Own) → Stays (other d) w (own_called slack w (channel d) k).world
other_stays slack w d (near x index) = (unfold own_called pair_near called in leaves_other w d (called slack (seen w d) (deed (as_deed (near x index)))).world (called_lengths slack (seen w d) (deed (as_deed (near x index)))))
other_stays slack w d score = (unfold own_called pair_observed called in leaves_other w d (called slack (seen w d) (deed (as_deed score))).world (called_lengths slack (seen w d) (deed (as_deed score))))
other_stays slack w d rearm = (unfold own_called pair_rearmed called in leaves_other w d (called slack (seen w d) (deed (as_deed rearm))).world (called_lengths slack (seen w d) (deed (as_deed rearm))))
other_stays slack w d discard = (unfold own_called pair_discarded called in leaves_other w d (called slack (seen w d) (deed (as_deed discard))).world (called_lengths slack (seen w d) (deed (as_deed discard))))
other_stays slack w d (ask r) = (unfold own_called in stays_same (other d) w)

-- so what the other channel sees differs at most in the scratch, which no call reads
pub stays_alike : (e : Side) (w v : PairWorld) → Stays e w v → ScratchAlike (seen w e) (seen v e)
stays_alike e w v h =
    record {
      scan = λ i. record { geometry = h.geometry i; far = h.far i; near = (h.channel i).near; verdict = (h.channel i).verdict };
      envelope = h.envelope;
      levels = λ i. (h.buffers i).levels;
      lag_sums = λ i. (h.buffers i).lag_sums;
      lengths = h.scratch;
    }

-- ---- by its own

-- the pair's step is the scan's, on what channel d sees
pub record ByItsOwn (d : Side) (s : PairStep) (t : Step) : Type 0 where
  pub response : s.response ≡ t.response
  pub world : seen s.world d ≡ t.world

leaves_whole : (w : PairWorld) (d : Side) (v : World) → CommonKept (seen w d) v → seen (leaves w d v) d ≡ v
leaves_whole w first v h =
    λ i. record {
      scan = record { geometry = sym h.geometry i; far = sym h.far i; near = v.scan.near; verdict = v.scan.verdict };
      buffers = record { envelope = sym h.envelope i; levels = v.buffers.levels; window = v.buffers.window; prefix = v.buffers.prefix; squares = v.buffers.squares; scores = v.buffers.scores; lag_sums = v.buffers.lag_sums };
    }
leaves_whole w second v h =
    λ i. record {
      scan = record { geometry = sym h.geometry i; far = sym h.far i; near = v.scan.near; verdict = v.scan.verdict };
      buffers = record { envelope = sym h.envelope i; levels = v.buffers.levels; window = v.buffers.window; prefix = v.buffers.prefix; squares = v.buffers.squares; scores = v.buffers.scores; lag_sums = v.buffers.lag_sums };
    }

report_own : (p : PairWorld) (d : Side) (r : OwnReport) → own_reported p.pair (channel d) r ≡ reported (seen p d).scan (as_report r)
report_own p d region = (unfold pair_region in refl)
report_own p d beyond_ceiling_report = (unfold pair_beyond_ceiling in refl)
report_own p d frames = (unfold pair_frames in refl)
report_own p d correlation = (unfold pair_correlation in refl)
report_own p d Steps.finished = (unfold pair_finished in refl)
report_own p d exhausted = (unfold pair_exhausted in refl)

pub by_its_own : (slack : ℕ) (w : PairWorld) (d : Side) (k : Own) → ByItsOwn d (own_called slack w (channel d) k) (called slack (seen w d) (deed (as_deed k)))
by_its_own slack w d (near x index) = (unfold own_called pair_near called in record { response = refl; world = leaves_whole w d _ (near_kept slack (seen w d) x index) })
by_its_own slack w d score = (unfold own_called pair_observed called in record { response = refl; world = leaves_whole w d _ (score_kept slack (seen w d)) })
by_its_own slack w d rearm = (unfold own_called pair_rearmed called in record { response = refl; world = leaves_whole w d _ (unfold rearmed in clear_kept slack (seen w d) _ refl refl) })
by_its_own slack w d discard = (unfold own_called pair_discarded called in record { response = refl; world = leaves_whole w d _ (unfold discarded in clear_kept slack (seen w d) _ refl refl) })
by_its_own slack w d (ask r) = (unfold own_called called in record { response = report_own w d r; world = refl })

-- ---- a number that names no channel

pub named_none : (c : ℕ) → 2 ≤ c → named c ≡ unknown
unfolding named
named_none c l = pick_false (eqb c 0) _ _ (ne_eqb c 0 (λ e. omega arith)) ∙ pick_false (eqb c 1) _ _ (ne_eqb c 1 (λ e. omega arith))

-- a number below 2 names one
pub named_side : (c : ℕ) → c < 2 → named c ≡ channel (side_of c)
unfolding named
named_side c l =
    pick_case (λ (d : Side). named c ≡ channel d) (eqb c 0) first second (λ t. pick_true (eqb c 0) _ _ t)
    (λ t. pick_false (eqb c 0) _ _ t ∙ pick_true (eqb c 1) _ _ (eq-eqb c 1 (let n : c ≡ 0 → ⊥ = eqb-false c 0 t in omega (arith, n))))

pub side_zero : side_of 0 ≡ first
unfolding pick
side_zero = refl

pub side_one : side_of 1 ≡ second
unfolding pick
side_one = refl

pub named_own : (d : Side) → named (number_of d) ≡ channel d
unfolding named pick
named_own first = refl
named_own second = refl

-- the number answered, and the pair and buffers as they were
pub record Refuses (n : ℕ) (w : PairWorld) (s : PairStep) : Type 0 where
  pub number : refusal_of s.response ≡ n
  pub world : s.world ≡ w

report_unknown : (p : Pair) (r : OwnReport) → refusal_of (own_reported p unknown r) ≡ no_such_channel
report_unknown p region = (unfold pair_region in refl)
report_unknown p beyond_ceiling_report = (unfold pair_beyond_ceiling in refl)
report_unknown p frames = (unfold pair_frames in refl)
report_unknown p correlation = (unfold pair_correlation in refl)
report_unknown p Steps.finished = (unfold pair_finished in refl)
report_unknown p exhausted = (unfold pair_exhausted in refl)

pub unknown_refused : (slack : ℕ) (w : PairWorld) (k : Own) → Refuses no_such_channel w (own_called slack w unknown k)
unknown_refused slack w (near x index) = (unfold own_called pair_near in record { number = refl; world = refl })
unknown_refused slack w score = (unfold own_called pair_observed in record { number = refl; world = refl })
unknown_refused slack w rearm = (unfold own_called pair_rearmed in record { number = refl; world = refl })
unknown_refused slack w discard = (unfold own_called pair_discarded in record { number = refl; world = refl })
unknown_refused slack w (ask r) = (unfold own_called in record { number = report_unknown w.pair r; world = refl })

-- "11, channel number not 0 or 1, before all others", whatever else is wrong
pub eleven : (slack : ℕ) (w : PairWorld) (c : ℕ) (k : Own) → 2 ≤ c → Refuses 11 w (pair_called slack w (on c k))
unfolding pair_called
eleven slack w c k l = subst (λ (n : Named). Refuses 11 w (own_called slack w n k)) (sym (named_none c l)) (unknown_refused slack w k)
