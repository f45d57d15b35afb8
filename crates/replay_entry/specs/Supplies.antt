-- Whether an event's samples are at hand, and the turn of the next entry.
use Rattle.std.specs.Prelude.{ℕ, ◌+◌, length}
use Rattle.answers.specs.Pick.{pick}
use Rattle.scan.specs.State.{Buffers}
use Rattle.recording.specs.Recording.{event_at}
use Rattle.recording.specs.Samples.{bytes_of, supplied}
use Rattle.recording.specs.declared.Form.{Form}
use Rattle.recording.specs.declared.Header.{Header}
use Rattle.replay.specs.declared.Session.{Session}
use Rattle.replay_stream.specs.Stream.{Piece, Hand, Next, short, waits, awaited, entry_turn}
use Rattle.replay_stream.specs.declared.Stage.TheVariants.{Events}
use Rattle.replay_stream.specs.declared.Input.TheVariants.{Entries}
use Rattle.replay_entry.specs.declared.Supply.{Supply}
use Rattle.replay_entry.specs.declared.Supply.TheVariants as supply

-- wanted; or there; or the event passes the header's total, or its input has ended before them
unfoldable pub supply_of : Form → ℕ → ℕ → ℕ → Piece → Supply
supply_of form used total count p =
    pick (awaited form used total count p) supply.Awaited
    (pick (supplied form (used + count) total (bytes_of form used + length p.bytes)) supply.AtHand supply.Lacking)

-- the next entry, where there is one to come
abbrev pub next_entry : Header → ℕ → Session → Buffers → Hand → Next
next_entry h number s b hand =
    pick (short 16 hand.events) (waits number Events s b Entries) (entry_turn h number s b hand (event_at hand.events.bytes 0))
