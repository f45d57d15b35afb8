-- The beginning of a stream: a making or a reset that is not refused leaves a new scan, which is sound.
use Prim.Native.Nat.{ℕ}
use mathlib.Core.Path.{◌≡◌, refl, ap, ap₂, ◌∙◌}
use mathlib.Core.Bool.{true}
use native.Mathlib.Omega.{arith}
use lib.Dec.{lit<, lit≤}
use Rattle.answers.specs.Refusals.{none}
use Rattle.answers.proofs.Refusals.{passed}
use Rattle.floats.proofs.Levels.{AtMost, zero_at_most}
use Rattle.folds.specs.Sums.{zeros}
use Rattle.scan.specs.Bins.{in_table, geometry_of, envelope_len, lags}
use Rattle.scan.specs.State.{Buffers, World, new_far, new_near, new_verdict}
use Rattle.scan.specs.Calls.{Restart, making_refusal, made, reset_refusal, was_reset}
use Rattle.scan.specs.Steps.{reset, deed, refusal_of, changes, with_envelope, with_lag_sums, called, making}
use Rattle.scan.specs.Streams.{Accepted, Began, by_making, by_reset}
use Rattle.scan.specs.declared.Geometry.{Geometry}
use Rattle.scan.proofs.Laws.{if_refused_case, both_and, all_zeros_lem, length_zeros}
use Rattle.scan.proofs.Settings.{Allowed, some}
use Rattle.scan.proofs.Sound.{Sound}
use Rattle.scan.proofs.Accepted.{first_passed, follows_by}
use Rattle.scan.proofs.Contracts.{reset_step}
use Rattle.scan.proofs.Keeps.{cleared_sound, none_banked}

-- a scan as it is made, and the buffers lent to it
abbrev pub fresh : ℕ → Geometry → Buffers → World
fresh slack g lent =
    record {
      scan = record { geometry = g; far = new_far; near = new_near; verdict = new_verdict };
      buffers = with_lag_sums (with_envelope lent (zeros (envelope_len slack g))) (zeros (lags g));
    }

pub fresh_sound : (slack : ℕ) (g : Geometry) (lent : Buffers) → Allowed g → Sound slack (fresh slack g lent)
fresh_sound slack g lent a =
    record {
      allowed = a;
      far =
          record {
            heard = record { placed = omega arith; partial = some g a; sum = zero_at_most; levels = all_zeros_lem (AtMost 1) (envelope_len slack g) (lit≤ tt) };
            accepted = lit≤ tt;
            length = length_zeros (envelope_len slack g);
          };
      near = cleared_sound g a 0 0 lent.levels (omega arith);
      verdict = record { banked = lit< tt; rests = λ e. both_and true true refl refl };
      lag_sums = none_banked g;
    }

-- a reset, refused or not, leaves a sound scan
pub reset_sound : (slack : ℕ) (w : World) → Sound slack w → Sound slack (called slack w (deed reset)).world
unfolding called was_reset
reset_sound slack w s =
    if_refused_case (λ (p : Restart). Sound slack (reset_step w.buffers p).world) (reset_refusal slack w.scan w.buffers.envelope w.buffers.lag_sums) _ _ (λ r. s) (λ z. fresh_sound slack w.scan.geometry w.buffers s.allowed)

pub record Fresh (slack rate ceiling : ℕ) (w : World) : Type 0 where
  pub inside : in_table rate ceiling ≡ true
  pub is : w ≡ fresh slack (geometry_of rate ceiling) w.buffers

making_fresh : (slack rate ceiling : ℕ) (lent : Buffers) → refusal_of (making slack rate ceiling lent).response ≡ none → Fresh slack rate ceiling (making slack rate ceiling lent).world
unfolding making made making_refusal
making_fresh slack rate ceiling lent =
    if_refused_case (λ (p : Restart). refusal_of (changes p.changed.answer) ≡ none → Fresh slack rate ceiling (reset_step lent p).world) (making_refusal slack rate ceiling lent.envelope lent.lag_sums) _ _
    (λ r e. absurd (r e)) (λ z e. record { inside = (passed (in_table rate ceiling) 0 _ z).0; is = refl })

reset_fresh : (slack rate ceiling : ℕ) (w : World) → w.scan.geometry.rate ≡ rate → w.scan.geometry.ceiling ≡ ceiling → Accepted slack w (deed reset) → Fresh slack rate ceiling (called slack w (deed reset)).world
unfolding called was_reset reset_refusal
reset_fresh slack rate ceiling w p q =
    if_refused_case (λ (p : Restart). refusal_of (changes p.changed.answer) ≡ none → Fresh slack rate ceiling (reset_step w.buffers p).world) (reset_refusal slack w.scan w.buffers.envelope w.buffers.lag_sums) _ _
    (λ r e. absurd (r e))
    (λ z e. let a = first_passed w.scan _ z in record {
      inside = rw (← p, ← q) a.inside;
      is = ap (λ (g : Geometry). fresh slack g w.buffers) (follows_by w.scan a.rules ∙ ap₂ {A = ℕ} {B = ℕ} geometry_of p q);
    })

pub began : (slack rate ceiling : ℕ) (w : World) → Began slack rate ceiling w → Fresh slack rate ceiling w
began slack rate ceiling w (by_making lent e) = making_fresh slack rate ceiling lent e
began slack rate ceiling w (by_reset v p q e) = reset_fresh slack rate ceiling v p q e
