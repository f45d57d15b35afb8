-- What a host notes, each line with the session behind it, as a function of the recording: the calls with all bytes at hand. `streamed_noted` says that every host notes this,
-- and `noted_log` that its lines are the log.
use Rattle.std.specs.Prelude.{ℕ, zero, suc, true, List, [], ◌∷◌, length, drop}
use Rattle.scan.specs.Bins.{geometry_of}
use Rattle.scan.specs.State.{Buffers}
use Rattle.recording.specs.Recording.{offset_of}
use Rattle.recording.specs.declared.Header.{Header}
use Rattle.replay.specs.Log.{log_of, new_session, clear_buffers}
use Rattle.replay.specs.declared.Session.{Session}
use Rattle.replay_stream.specs.Stream.{Place, Piece, Hand, Answer, Says, Silent, Wants, Over, next_line}
use Rattle.replay_stream.specs.Hosts.{Rest, rest, rest_after, Noted, noted, opens}

abbrev pub last : List ℕ → Piece
last bytes = record { bytes = bytes; ended = true }

abbrev pub whole_hand : Rest → Hand
whole_hand r = record { events = last r.events; far = last r.far; near = last r.near }

abbrev pub note_of : Answer → Session → List Noted → List Noted
note_of (Says l) s ts = noted l s ∷ ts
note_of Silent s ts = []
note_of (Wants i) s ts = []
note_of Over s ts = []

-- so many calls
unfoldable pub notes : ℕ → Header → Place → Buffers → Rest → List Noted
notes zero h p b r = []
notes (suc more) h p b r =
    let t = next_line h p b (whole_hand r) in
    note_of t.answer t.place.session (notes more h t.place t.buffers (rest_after t.used r))

-- a call for each line of the log
unfoldable pub noted_of : Header → List ℕ → List ℕ → List ℕ → List Noted
noted_of h events far near =
    notes (length (log_of events far near)) h (opens (new_session h.rate h.ceiling)) (clear_buffers (geometry_of h.rate h.ceiling)) (rest (drop (offset_of h.form) events) far near)
