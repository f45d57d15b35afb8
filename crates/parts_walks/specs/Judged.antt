-- One log judged from an open file, turn by turn.
use Rattle.std.specs.Prelude.{◌≡◌, List, [], ◌++◌, ℕ}
use Rattle.pipes.specs.Window.{at_hand, over, Moved}
use Rattle.pipes.specs.declared.window.Window.{Window}
use Rattle.log_passes.specs.Taking.{taken_in}
use Rattle.log_passes.specs.Judging.{unread, judged_in}
use Rattle.log_passes.specs.declared.judging.Judging.{Judging}
use Rattle.log_passes.specs.declared.judging.Judgement.{Judgement}
use Rattle.log_passes.specs.declared.judging.Look.{Look}
use Rattle.log_passes.specs.declared.judging.Look.TheVariants.{Goes, Wants, Over, Strange}
use Rattle.parts_walks.specs.declared.judge.Stand.{Stand}

-- before the first answer
abbrev pub judge_opened : Window → Stand
judge_opened w = record { judging = unread; window = w; look = Wants }

-- what is answered of the bytes at hand, and of nothing else
abbrev pub judge_answered : Judging → Window → List ℕ → Judgement
judge_answered j w room = judged_in j (at_hand w room) (taken_in (at_hand w room) (over w))

-- what was answered is done: bytes are used, or more of them read; else all stays
abbrev pub Heeded : Look → Window → List ℕ → Window → List ℕ → Type 0
Heeded (Goes used) w room w' room' = Moved used w room w' room'
Heeded Wants w room w' room' = Moved 0 w room w' room'
Heeded Over w room w' room' = (w' ≡ w) × (room' ≡ room)
Heeded (Strange n) w room w' room' = (w' ≡ w) × (room' ≡ room)

-- the bytes that came
abbrev pub came_by : (l : Look) (w : Window) (room : List ℕ) (w' : Window) (room' : List ℕ) → Heeded l w room w' room' → List ℕ
came_by (Goes used) w room w' room' m = m.came
came_by Wants w room w' room' m = m.came
came_by Over w room w' room' m = []
came_by (Strange n) w room w' room' m = []

pub record JudgeTurned (s : Stand) (room : List ℕ) (s' : Stand) (room' : List ℕ) : Type 0 where
  pub said : ◌≡◌ {A = Judgement} (record { judging = s'.judging; look = s'.look }) (judge_answered s.judging s.window room)
  pub done : Heeded s'.look s.window room s'.window room'

-- turn after turn, in which these bytes came
pub data JudgeTurns : Stand → List ℕ → List ℕ → Stand → List ℕ → Type 0 where
  none : {s : Stand} {room : List ℕ} → JudgeTurns s room [] s room
  more : {s t u : Stand} {room room₁ room₂ bytes : List ℕ} → JudgeTurns s room bytes t room₁ → (one : JudgeTurned t room₁ u room₂)
      → JudgeTurns s room (bytes ++ came_by u.look t.window room₁ u.window room₂ one.done) u room₂

pub record JudgeWalked (s : Stand) (room : List ℕ) (s' : Stand) (room' : List ℕ) : Type 0 where
  pub bytes : List ℕ
  pub turns : JudgeTurns s room bytes s' room'
