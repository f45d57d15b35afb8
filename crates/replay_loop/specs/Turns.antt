-- A host's loop over its turns, as the history of what was done: which bytes came of each input, and which lines were said. What it comes to is proved apart from the code.
use Rattle.std.specs.Prelude.{ℕ, ◌≡◌, Bool, true, false, List, [], ◌∷◌, ◌++◌}
use Rattle.std.proofs.Common.{inl, inr}
use Rattle.scan.specs.State.{Buffers}
use Rattle.log_lines.specs.declared.Line.{Line}
use Rattle.log_hold.specs.declared.Check.{Check}
use Rattle.recording.specs.declared.Header.{Header}
use Rattle.replay_stream.specs.Hosts.{Rest, rest}
use Rattle.replay_stream.specs.declared.Answer.{Answer}
use Rattle.replay_stream.specs.declared.Answer.TheVariants.{Says, Silent, Wants, Over}
use Rattle.replay_sink.specs.Sink.{HeardOf, Open, Closed, Finished}
use Rattle.replay_sink.specs.declared.Sink.{Sink}
use Rattle.replay_sink.specs.declared.Sink.TheVariants.{Writes, Checks}
use Rattle.replay_step.specs.Step.{Turn}
use Rattle.replay_step.specs.declared.Stream.{Stream}

-- the bytes of the three inputs, one after the other
abbrev pub behind : Rest → Rest → Rest
behind x y = rest (x.events ++ y.events) (x.far ++ y.far) (x.near ++ y.near)

-- ---- what one turn brought

abbrev pub came_by : {h : Header} {s s' : Stream} {b b' : Buffers} {e f n room e' f' n' room' : List ℕ} → Turn h s b e f n room s' b' e' f' n' room' → Rest
came_by one = rest one.heeded.inputs.events.moved.came one.heeded.inputs.far.moved.came one.heeded.inputs.near.moved.came

-- of a log that is checked
abbrev pub log_by : (a : Answer) (s : Sink) (room : List ℕ) (s' : Sink) (room' : List ℕ) → HeardOf a s room s' room' → List ℕ
log_by (Says l) (Writes t) room s' room' h = []
log_by (Says l) (Checks c) room (Writes t') room' h = []
log_by (Says l) (Checks c) room (Checks c') room' h = h.sought.more
log_by Silent s room s' room' h = []
log_by (Wants i) s room s' room' h = []
log_by Over s room s' room' h = []

-- of the same at the end
abbrev pub closed_by : (c : Check) (room : List ℕ) (c' : Check) (room' : List ℕ) → Closed c room c' room' → List ℕ
closed_by c room c' room' (inl p) = p.1.sought.more
closed_by c room c' room' (inr p) = []

abbrev pub end_by : (o : Bool) (s : Sink) (room : List ℕ) (c' : Check) (room' : List ℕ) → Finished o s room (Checks c') room' → List ℕ
end_by o (Writes t) room c' room' fin = []
end_by true (Checks c) room c' room' fin = closed_by c room c' room' fin
end_by false (Checks c) room c' room' fin = []

abbrev pub said_by : Answer → List Line
said_by (Says l) = l ∷ []
said_by Silent = []
said_by (Wants i) = []
said_by Over = []

-- ---- turn after turn, in which these bytes came and these lines were said. There is another turn only where the log is not over, and a log that is checked was right so far.

pub data Turns (h : Header) (s : Stream) (b : Buffers) (e f n room : List ℕ) : Rest → List ℕ → List Line → Stream → Buffers → List ℕ → List ℕ → List ℕ → List ℕ → Type 0 where
  none : Turns h s b e f n room (rest [] [] []) [] [] s b e f n room
  more : {x : Rest} {y : List ℕ} {ls : List Line} {v u : Stream} {c d : Buffers} {e₁ f₁ n₁ room₁ e₂ f₂ n₂ room₂ : List ℕ}
      → Turns h s b e f n room x y ls v c e₁ f₁ n₁ room₁ → v.over ≡ false → Open v.sink → (one : Turn h v c e₁ f₁ n₁ room₁ u d e₂ f₂ n₂ room₂)
      → Turns h s b e f n room (behind x (came_by one)) (y ++ log_by one.gave.answer v.sink room₁ u.sink room₂ one.heeded.heard) (ls ++ said_by one.gave.answer) u d e₂ f₂ n₂ room₂

pub record Played (h : Header) (s : Stream) (b : Buffers) (e f n room : List ℕ) (s' : Stream) (b' : Buffers) (e' f' n' room' : List ℕ) : Type 0 where
  pub came : Rest
  pub log : List ℕ
  pub lines : List Line
  pub turns : Turns h s b e f n room came log lines s' b' e' f' n' room'
