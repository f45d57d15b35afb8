use Prim.Native.Nat.{ℕ}
use mathlib.Core.Path.{◌≡◌}
use lib.ListN.{length}
use Rattle.pipes.specs.Window.{Within}
use Rattle.parts_walks.specs.Judged.{JudgeWalked}
use Rattle.parts_walks.proofs.judge.all.Given as goal

abbrev pub invariant-loop : goal.invariant-loop
invariant-loop l = (Within l.stand.window) × (length l.room ≡ length l.initial.room) × (length l.room ≡ 65536) × (JudgeWalked l.initial.stand l.initial.room l.stand l.room)
