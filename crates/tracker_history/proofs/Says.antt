-- Which verdicts each sort of cycle can have: what holds of those few holds of the verdict it has.
use Prim.Native.Nat.{ℕ}
use mathlib.Core.Path.{◌≡◌}
use mathlib.Core.Bool.{Bool, true, false}
use native.Mathlib.Omega.{arith}
use lib.Dec.{leb}
use Rattle.answers.specs.Numbers.{next_count}
use Rattle.answers.specs.Pick.{pick, pick_all}
use Rattle.units.specs.declared.Samples.{Samples}
use Rattle.tracker.specs.declared.Outcome.{Outcome}
use Rattle.tracker.specs.declared.Outcome.TheVariants.{Candidate, Unconfident}
use Rattle.tracker.specs.declared.Trigger.{Trigger}
use Rattle.tracker.specs.declared.Trigger.TheVariants.{Edge, Lost, Jump, Seam}
use Rattle.tracker.specs.declared.Verdict.{Verdict}
use Rattle.tracker.specs.declared.Verdict.TheVariants.{Hold, Move, Reacquire}
use Rattle.tracker.specs.declared.Tracker.{Tracker}
use Rattle.tracker.specs.declared.Cycled.{Cycled}
use Rattle.tracker.specs.Cycle.{at_limit, unconfident_cycle, edge_cycle, outside_bands, confirmed, escalated, outside_cycle, interior_cycle, judged}

-- what `cc` is asked to prove from an equation of two different constructors: anything would do, since there is no such equation
abbrev pub Clash : Type 0
Clash = ◌≡◌ {A = ℕ} 0 1

pub clash : {A : Type 0} → Clash → A
clash z = absurd (omega (arith, z))

module _ (P : Verdict → Type 0) (holds : P Hold) where
  pub limit_says : (run most : ℕ) (w : Trigger) → P (Reacquire w) → P (at_limit run most w)
  limit_says run most w p = pick_all P (leb most run) _ _ p holds

  pub unconfident_says : (t : Tracker) → P (Reacquire Seam) → P (Reacquire Lost) → P (unconfident_cycle t).verdict
  unfolding unconfident_cycle
  unconfident_says t p q = pick_all P t.suspect _ _ (limit_says (next_count t.unconfident) 4 Seam p) (limit_says (next_count t.unconfident) 8 Lost q)

  pub edge_says : (t : Tracker) → P (Reacquire Edge) → P (edge_cycle t).verdict
  unfolding edge_cycle
  edge_says t p = limit_says (next_count t.edges) 3 Edge p

  pub escalated_says : (t : Tracker) (c had : Bool) → P (Reacquire Jump) → P (escalated t c had).verdict
  unfolding escalated
  escalated_says t c had p = pick_all (λ (r : Cycled). P r.verdict) c _ _ (limit_says (next_count t.jumps) 4 Jump p) holds

  pub interior_says : (t : Tracker) (a d : ℕ) → P (Reacquire Jump) → ((to : Samples) → P (Move to)) → P (interior_cycle t a d).verdict
  unfolding interior_cycle outside_cycle
  interior_says t a d p m =
      let Q : Cycled → Type 0 = λ r. P r.verdict in
      pick_all Q (outside_bands t a d) _ _ (pick_all Q (confirmed t d) _ _ (m _) (escalated_says _ _ _ p)) (escalated_says _ _ _ p)

  pub judged_says : (t : Tracker) (a : Samples) (o : Outcome) → ((w : Trigger) → P (Reacquire w)) → ((to : Samples) → P (Move to)) → P (judged t a o).verdict
  unfolding judged pick
  judged_says t a Unconfident p m = unconfident_says t (p Seam) (p Lost)
  judged_says t a (Candidate d true) p m = interior_says t a.0 d.0 (p Jump) m
  judged_says t a (Candidate d false) p m = edge_says t (p Edge)
