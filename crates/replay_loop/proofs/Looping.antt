-- The history of a loop, turn by turn.
use mathlib.Core.Path.{◌≡◌}
use mathlib.Core.Bool.{false}
use mathlib.Core.List.{List, [], ◌++◌}
use Prim.Native.Nat.{ℕ}
use Rattle.scan.specs.State.{Buffers}
use Rattle.recording.specs.declared.Header.{Header}
use Rattle.replay_stream.specs.Hosts.{rest}
use Rattle.replay_inputs.specs.Inputs.{AllWithin}
use Rattle.replay_sink.specs.Sink.{Open}
use Rattle.replay_step.specs.Step.{Turn}
use Rattle.replay_step.specs.declared.Stream.{Stream}
use Rattle.replay_loop.specs.Turns.{behind, came_by, log_by, said_by, none, more, Played}

pub begun : (h : Header) (s : Stream) (b : Buffers) (e f n room : List ℕ) → Played h s b e f n room s b e f n room
begun h s b e f n room = record { came = rest [] [] []; log = []; lines = []; turns = none }

pub goes : {h : Header} {s v u : Stream} {b c d : Buffers} {e f n room e₁ f₁ n₁ room₁ e₂ f₂ n₂ room₂ : List ℕ} → Played h s b e f n room v c e₁ f₁ n₁ room₁ → v.over ≡ false → Open v.sink
    → Turn h v c e₁ f₁ n₁ room₁ u d e₂ f₂ n₂ room₂ → Played h s b e f n room u d e₂ f₂ n₂ room₂
goes {v = v} {u = u} {room₁ = room₁} {room₂ = room₂} p over right one =
    record {
      came = behind p.came (came_by one);
      log = p.log ++ log_by one.gave.answer v.sink room₁ u.sink room₂ one.heeded.heard;
      lines = p.lines ++ said_by one.gave.answer;
      turns = more p.turns over right one;
    }

pub still_within : {h : Header} {v u : Stream} {c d : Buffers} {e₁ f₁ n₁ room₁ e₂ f₂ n₂ room₂ : List ℕ} → Turn h v c e₁ f₁ n₁ room₁ u d e₂ f₂ n₂ room₂ → AllWithin u.inputs
still_within one =
    let i = one.heeded.inputs in
    record { events = i.events.moved.within; far = i.far.moved.within; near = i.near.moved.within }
