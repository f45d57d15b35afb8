-- A state that keeps the rules keeps them through a near sample, a gate and a rescan; and what each outcome of the gate leaves.
use Rattle.std.proofs.Common.{◌≡◌, ℕ, ◌≤◌, eqb, List, length, refl, arith, eqb-true}
use lib.Ieee.{Float}
use Rattle.answers.specs.Pick.{pick_case, pick_all}
use Rattle.fine.specs.State.{Sound, with_frames}
use Rattle.fine.specs.declared.Frames.{Frames}
use Rattle.fine.specs.declared.Fine.{Fine}
use Rattle.fine_gate.specs.declared.Rescanned.{Rescanned}
use Rattle.fine_gate.specs.declared.Passage.{Passage}
use Rattle.fine_gate.specs.declared.Passage.TheVariants.{Skipped, Silent, Taken}
use Rattle.fine_gate.specs.Gate.{NearPush, Gating, near_refusal, took_one, pushed_near, passage, consumed, passed, gate_refusal, gated, rescanned}
use Rattle.fine_gate.proofs.Laws.{room}

frames_sound : (s : Fine) (f : Frames) → Sound s → f.len ≤ s.lengths.frame → Sound (with_frames s f)
frames_sound s f h l = record { least = h.least; most = h.most; transform = h.transform; frame = h.frame; origin = h.origin; near = l }

abbrev SoundPush : NearPush → Type 0
SoundPush r = Sound r.took.fine

pub pushed_sound : (s : Fine) (near : List Float) (x : Float) → Sound s → SoundPush (pushed_near s near x)
unfolding pushed_near took_one
pushed_sound s near x h =
    pick_case SoundPush (eqb (near_refusal s (length near) x) 0) _ _
    (λ e. let r = room s (length near) x _ refl (eqb-true _ _ e) in frames_sound s _ h (omega arith))
    (λ e. h)

-- the near frame is consumed in every case
pub consumed_empty : (f : Frames) (p : Passage) → (consumed f p).len ≡ 0
consumed_empty f Skipped = refl
consumed_empty f Silent = refl
consumed_empty f Taken = refl

abbrev SoundGate : Gating → Type 0
SoundGate r = Sound r.gated.fine

pub gated_sound : (s : Fine) (near retained far : List Float) (head tail : ℕ) → Sound s → SoundGate (gated s near retained far head tail)
unfolding gated passed
gated_sound s near retained far head tail h =
    pick_all SoundGate (eqb (gate_refusal s near (length retained) far head tail) 0) _ _
    (frames_sound s _ h (omega (arith, consumed_empty s.frames (passage s near far head tail))))
    h

-- a rescan changes nothing
pub rescanned_same : (s : Fine) (retained far : List Float) (head tail : ℕ) → (rescanned s retained far head tail).fine ≡ s
unfolding rescanned
rescanned_same s retained far head tail = pick_all (λ (r : Rescanned). r.fine ≡ s) _ _ _ (pick_all (λ (r : Rescanned). r.fine ≡ s) _ _ _ refl refl) refl
