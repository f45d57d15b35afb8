-- `ring_window::cutting::cut` meets its contract.
use Prim.Native.Nat.{ℕ, ◌+◌, ◌-◌, min}
use mathlib.Core.Path.{refl, ap, ◌∙◌}
use native.Mathlib.Nat.{mod-lt}
use native.Mathlib.Omega.{arith}
use Rattle.ring_window.proofs.Slots.{cut_none, cut_some}
use Rattle.ring_window.proofs.cutting.cut.Goals as goal

pub returns-then-end-head : goal.returns-then-end-head
returns-then-end-head c =
    let a = c.args in
    cut_none a.accepted a.capacity a.at a.back a.n _ _ (c.places_before-head.ensures ∙ ap (λ (k : ℕ). min a.n (a.back + k - a.at)) c.saturating_sub-oldest.ensures) c.places_before-end.ensures c.if-end-head.true

pub overflow_sub-slots : goal.overflow_sub-slots
overflow_sub-slots c = omega (arith, mod-lt c.index_of.result c.requires.0)

pub overflow_sub-result-3 : goal.overflow_sub-result-3
overflow_sub-result-3 c = omega (arith, c.min-run.ensures)

pub overflow_sub-result-4 : goal.overflow_sub-result-4
overflow_sub-result-4 c = omega (arith, c.places_before-end.ensures)

pub returns : goal.returns
returns c =
    let a = c.args in
    cut_some a.accepted a.capacity a.at a.back a.n _ _ (c.places_before-head.ensures ∙ ap (λ (k : ℕ). min a.n (a.back + k - a.at)) c.saturating_sub-oldest.ensures) c.places_before-end.ensures c.if-end-head.false c.requires.0 c.index_of.result _ _ c.index_of.ensures refl c.min-run.ensures
