-- One turn of the judge.
use mathlib.Core.Path.{◌≡◌, sym, subst}
use mathlib.Core.List.{List, []}
use Prim.Native.Nat.{ℕ}
use Rattle.pipes.specs.Window.{Within}
use Rattle.pipes.specs.declared.window.Window.{Window}
use Rattle.log_passes.specs.declared.judging.Look.{Look}
use Rattle.log_passes.specs.declared.judging.Look.TheVariants.{Goes, Wants, Over, Strange}
use Rattle.parts_walks.specs.Judged.{Heeded, JudgeTurned, JudgeWalked, none, more}
use Rattle.parts_walks.specs.declared.judge.Stand.{Stand}

module _ (w : Window) (room : List ℕ) (w' : Window) (room' : List ℕ) where
  pub heeds : (l m : Look) → l ≡ m → Heeded m w room w' room' → Heeded l w room w' room'
  heeds l m e h = subst (λ (z : Look). Heeded z w room w' room') (sym e) h

  pub stays_within : (l : Look) → Within w → Heeded l w room w' room' → Within w'
  stays_within (Goes used) i h = h.within
  stays_within Wants i h = h.within
  stays_within Over i h = subst Within (sym h.0) i
  stays_within (Strange n) i h = subst Within (sym h.0) i

-- ---- turn after turn

pub begun : (s : Stand) (room : List ℕ) → JudgeWalked s room s room
begun s room = record { bytes = []; turns = none }

pub goes_on : {s t u : Stand} {room room₁ room₂ : List ℕ} → JudgeWalked s room t room₁ → JudgeTurned t room₁ u room₂ → JudgeWalked s room u room₂
goes_on w one = record { bytes = _; turns = more w.turns one }
