-- A call is refused exactly where its list of refusals says so, and with that number.
use Rattle.std.proofs.Common.{◌≡◌, ℕ, List, length, refl}
use lib.Ieee.{Float}
use Rattle.answers.specs.Pick.{pick_all}
use Rattle.answers.specs.Refusals.{none}
use Rattle.fine.specs.declared.Frames.{Frames}
use Rattle.fine.specs.declared.Fine.{Fine}
use Rattle.fine.specs.Told.{refusal_told}
use Rattle.fine.proofs.Numbers.{told}
use Rattle.fine_gate.specs.declared.GateAnswer.{GateAnswer}
use Rattle.fine_gate.specs.declared.Passage.{Passage}
use Rattle.fine_gate.specs.declared.Passage.TheVariants.{Skipped, Silent, Taken}
use Rattle.fine_gate.specs.declared.Rescanned.{Rescanned}
use Rattle.fine_gate.specs.declared.Taking.{Taking}
use Rattle.fine_gate.specs.Gate.{NearPush, Gating, near_refusal, took_one, pushed_near, passage, gate_answer, passed, gate_refusal, gated, rescan_answer, rescan_refusal, rescanned}
use Rattle.fine_gate.specs.Told.{taking_told, gate_told, rescan_told}

pub pushed_number : (s : Fine) (near : List Float) (x : Float) → refusal_told (taking_told (pushed_near s near x).took.answer) ≡ near_refusal s (length near) x
unfolding pushed_near took_one
pushed_number s near x =
    told (λ (r : NearPush). refusal_told (taking_told r.took.answer)) (near_refusal s (length near) x) _ _ refl (pick_all (λ (a : Taking). refusal_told (taking_told a) ≡ none) _ _ _ refl refl)

gate_accepts : (f : Frames) (p : Passage) → refusal_told (gate_told (gate_answer f p)) ≡ none
gate_accepts f Skipped = refl
gate_accepts f Silent = refl
gate_accepts f Taken = pick_all (λ (a : GateAnswer). refusal_told (gate_told a) ≡ none) _ _ _ refl refl

pub gated_number : (s : Fine) (near retained far : List Float) (head tail : ℕ)
    → refusal_told (gate_told (gated s near retained far head tail).gated.answer) ≡ gate_refusal s near (length retained) far head tail
unfolding gated passed
gated_number s near retained far head tail =
    told (λ (r : Gating). refusal_told (gate_told r.gated.answer)) (gate_refusal s near (length retained) far head tail) _ _ refl (gate_accepts s.frames (passage s near far head tail))

rescan_accepts : (p : Passage) → refusal_told (rescan_told (rescan_answer p)) ≡ none
rescan_accepts Skipped = refl
rescan_accepts Silent = refl
rescan_accepts Taken = refl

pub rescanned_number : (s : Fine) (retained far : List Float) (head tail : ℕ)
    → refusal_told (rescan_told (rescanned s retained far head tail).answer) ≡ rescan_refusal s retained far head tail
unfolding rescanned
rescanned_number s retained far head tail =
    told (λ (r : Rescanned). refusal_told (rescan_told r.answer)) (rescan_refusal s retained far head tail) _ _ refl
    (pick_all (λ (r : Rescanned). refusal_told (rescan_told r.answer) ≡ none) _ _ _ (rescan_accepts (passage s retained far head tail)) refl)
