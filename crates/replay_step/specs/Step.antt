-- One turn of a host: `next` is asked over the bytes at hand, and its answer is heeded.
use Rattle.std.specs.Prelude.{ℕ, ◌≡◌, Bool, true, false, List}
use Rattle.scan.specs.State.{Buffers}
use Rattle.recording.specs.declared.Header.{Header}
use Rattle.replay_stream.specs.Stream.{next_line}
use Rattle.replay_stream.specs.Giving.{gives}
use Rattle.replay_stream.specs.declared.Answer.{Answer}
use Rattle.replay_stream.specs.declared.Answer.TheVariants.{Says, Silent, Wants, Over}
use Rattle.replay_stream.specs.declared.Turned.{Turned}
use Rattle.replay_inputs.specs.Inputs.{hand_at, WentOn}
use Rattle.replay_sink.specs.Sink.{HeardOf}
use Rattle.replay_step.specs.declared.Stream.{Stream}

abbrev pub is_over : Answer → Bool
is_over (Says l) = false
is_over Silent = false
is_over (Wants i) = false
is_over Over = true

-- The bytes that were used are gone and those that were read stand behind the others; the line that was answered, and no other, goes where lines go; the place is the one left.
pub record Heeded (g : Turned) (s : Stream) (e f n room : List ℕ) (s' : Stream) (e' f' n' room' : List ℕ) : Type 0 where
  pub place : s'.place ≡ g.place
  pub inputs : WentOn g.answer g.used s.inputs e f n s'.inputs e' f' n'
  pub heard : HeardOf g.answer s.sink room s'.sink room'
  pub over : s'.over ≡ is_over g.answer

-- What `next` is handed are the bytes at hand of the three windows, and nothing else.
pub record Turn (h : Header) (s : Stream) (b : Buffers) (e f n room : List ℕ) (s' : Stream) (b' : Buffers) (e' f' n' room' : List ℕ) : Type 0 where
  pub gave : Turned
  pub asked : gives gave b' ≡ next_line h s.place b (hand_at s.inputs e f n)
  pub heeded : Heeded gave s e f n room s' e' f' n' room'
