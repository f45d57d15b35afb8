-- What a call is lent and what it gives back, as the definitions of Stream have it.
use Rattle.std.specs.Prelude.{ℕ, Bool, List}
use Rattle.scan.specs.State.{Buffers}
use Rattle.replay.specs.declared.Session.{Session}
use Rattle.replay_stream.specs.Stream.{Stage, Answer, Bytes, Piece, Hand, Next}
use Rattle.replay_stream.specs.declared.Ended.{Ended}
use Rattle.replay_stream.specs.declared.Turned.{Turned}

abbrev pub piece : List ℕ → Bool → Piece
piece bytes ended = record { bytes = bytes; ended = ended }

abbrev pub hand_of : List ℕ → List ℕ → List ℕ → Ended → Hand
hand_of events far near ended = record { events = piece events ended.events; far = piece far ended.far; near = piece near ended.near }

abbrev pub turned : ℕ → Stage → Session → Answer → Bytes → Turned
turned number stage s answer used = record { place = record { number = number; stage = stage; session = s }; answer = answer; used = used }

-- with the seven buffers as they were left
abbrev pub gives : Turned → Buffers → Next
gives r b = record { place = r.place; buffers = b; answer = r.answer; used = r.used }
