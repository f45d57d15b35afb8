-- `fine_handover::judge` meets its contract.
use Prim.Native.Nat.{ℕ}
use mathlib.Core.Path.{ap, ◌∙◌}
use lib.Dec.{eqb}
use Rattle.fine.specs.State.{first_refusals}
use Rattle.fine.proofs.Laws.{due_frame}
use Rattle.fine_gate.specs.Gate.{is_frame}
use Rattle.fine_handover.proofs.judge.Goals as goal

pub returns : goal.returns
unfolding is_frame
returns c =
    let a = c.args in
    c.first_refusals.ensures ∙ ap (λ (k : ℕ). first_refusals a.fine (eqb a.near_len k)) (due_frame _ _ c.of-due.ensures)
