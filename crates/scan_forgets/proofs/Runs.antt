-- A run of near samples is so many single calls: each of them was ignored, dropped or taken, and they leave what the run left.
use Prim.Native.Nat.{ℕ, suc, ◌+◌}
use mathlib.Core.Path.{◌≡◌, refl, sym, subst}
use mathlib.Core.List.{List, [], ◌∷◌}
use mathlib.Core.Bool.{true}
use native.Mathlib.Omega.{arith}
use lib.ListN.{take}
use lib.Ieee.{Float}
use Rattle.answers.specs.Numbers.{next_long_count}
use Rattle.answers.specs.Pick.{pick_case}
use Rattle.scan.specs.Bins.{full_slack}
use Rattle.scan.specs.State.{World}
use Rattle.scan.specs.Calls.{pushed_near}
use Rattle.scan.specs.Steps.{Call, near, deed, called, takes, with_levels}
use Rattle.scan.specs.declared.Taking.{Taking}
use Rattle.scan_runs.specs.Runs.{Run, passes, rests, further, ran}
use Rattle.scan_runs.proofs.push_near_run.Kinds as push-near-run-kinds
use Rattle.scan_runs.proofs.push_near_run.Reads as push-near-run-reads
use Rattle.scan_score.specs.Observing.{world}
use Rattle.scan_forgets.specs.Happened.{Return, Answered, as_singles, by_rules}

-- the world after calls in turn
unfoldable pub after_calls : World → List Call → World
after_calls w [] = w
after_calls w (c ∷ calls) = after_calls (called full_slack w c).world calls

-- each was answered by one of the takings that pass
abbrev pub Passes : List Answered → Type 0
Passes [] = Unit {0}
Passes (a ∷ rest) = ((t : Taking) × (a.response ≡ takes t) × (passes t ≡ true)) × Passes rest

-- the state and near levels that a run leaves, in the world
abbrev pub ran_world : World → Run → World
ran_world w r = world r.scan (with_levels w.buffers r.levels)

abbrev ran_in : World → List Float → ℕ → Run
ran_in w xs index = ran w.scan w.buffers.levels xs index

pub record Single (w : World) (xs : List Float) (index : ℕ) (r : Run) : Type 0 where
  pub ends : after_calls w (as_singles (take r.passed xs) index) ≡ ran_world w r
  pub passes : Passes (by_rules w (as_singles (take r.passed xs) index))

pub single : (xs : List Float) (w : World) (index : ℕ) → Single w xs index (ran_in w xs index)
unfolding ran after_calls as_singles by_rules called
single [] w index = record { ends = refl; passes = tt }
single (x ∷ xs) w index =
    let p = pushed_near w.scan w.buffers.levels x index in
    let v = (called full_slack w (deed (near x index))).world in
    let rest = single xs v (next_long_count index) in
    let r = ran_in v xs (next_long_count index) in
    let n : 1 + r.passed ≡ suc r.passed = omega arith in
    pick_case (Single w (x ∷ xs) index) (passes p.took.answer) (further 1 r) (rests w.scan w.buffers.levels)
    (λ t. subst (λ (k : ℕ). Single w (x ∷ xs) index (record { scan = r.scan; levels = r.levels; passed = k })) (sym n) (record { ends = rest.ends; passes = ((p.took.answer, refl, t), rest.passes) }))
    (λ t. record { ends = refl; passes = tt })

pub push_near_run_steps : (f : Return 2 push-near-run-kinds.ps push-near-run-kinds.r push-near-run-reads.Post) (w : World) → w.scan ≡ f.given.0 → w.buffers.levels ≡ f.given.1.0.now
    → Single w f.given.1.1.0.now f.given.1.1.1.0 (record { scan = f.result.scan; levels = f.left.1.0.now; passed = f.result.passed })
push_near_run_steps f w s e =
    let r = f.admitted.0 in
    let l = f.admitted.1 in
    rw (r, l, ← s, ← e) (single f.given.1.1.0.now w f.given.1.1.1.0)
