-- The three inputs of a recording, each behind a window: what is handed to `next`, and how the windows go on behind its answer.
use Rattle.std.specs.Prelude.{ℕ, ◌+◌, ◌-◌, ◌≤◌, min, ◌≡◌, Bool, true, false, List}
use Rattle.pipes.specs.Window.{Within, at_hand, over, Grown, Went}
use Rattle.pipes.specs.declared.window.Window.{Window}
use Rattle.replay_stream.specs.Stream.{Hand}
use Rattle.replay_stream.specs.declared.Bytes.{Bytes}
use Rattle.replay_stream.specs.declared.Input.{Input}
use Rattle.replay_stream.specs.declared.Input.TheVariants.{Entries, FarSide, NearSide}
use Rattle.replay_stream.specs.declared.Answer.{Answer}
use Rattle.replay_stream.specs.declared.Answer.TheVariants.{Says, Silent, Wants, Over}
use Rattle.replay_stream.specs.Giving.{hand_of}
use Rattle.replay_stream.specs.declared.Ended.{Ended}
use Rattle.replay_inputs.specs.declared.Inputs.{Inputs}

pub record AllWithin (i : Inputs) : Type 0 where
  pub events : Within i.events
  pub far : Within i.far
  pub near : Within i.near

-- no byte comes behind those at hand where none may be read any more
abbrev pub ended_at : Inputs → Ended
ended_at i = record { events = over i.events; far = over i.far; near = over i.near }

-- the bytes at hand of the three windows, and nothing else
abbrev pub hand_at : Inputs → List ℕ → List ℕ → List ℕ → Hand
hand_at i e f n = hand_of (at_hand i.events e) (at_hand i.far f) (at_hand i.near n) (ended_at i)

-- ---- behind an answer

abbrev pub is_input : Input → Input → Bool
is_input Entries Entries = true
is_input Entries FarSide = false
is_input Entries NearSide = false
is_input FarSide Entries = false
is_input FarSide FarSide = true
is_input FarSide NearSide = false
is_input NearSide Entries = false
is_input NearSide FarSide = false
is_input NearSide NearSide = true

abbrev pub wanted_by : Answer → Input → Bool
wanted_by (Says line) i = false
wanted_by Silent i = false
wanted_by (Wants j) i = is_input i j
wanted_by Over i = false

-- Of each input the bytes are used that the answer used, and the one that more is wanted of is read on.
pub record WentOn (a : Answer) (u : Bytes) (i : Inputs) (e f n : List ℕ) (i' : Inputs) (e' f' n' : List ℕ) : Type 0 where
  pub events : Went (wanted_by a Entries) u.events i.events e i'.events e'
  pub far : Went (wanted_by a FarSide) u.far i.far f i'.far f'
  pub near : Went (wanted_by a NearSide) u.near i.near n i'.near n'

-- ---- the two steps of it

abbrev pub Passed : ℕ → Window → Window → Type 0
Passed n w r = (Within r) × (r.left ≤ w.left) × (r.end ≡ w.end) × (r.at ≡ w.at + min n (w.end - w.at))

pub record AllPassed (u : Bytes) (i r : Inputs) : Type 0 where
  pub events : Passed u.events i.events r.events
  pub far : Passed u.far i.far r.far
  pub near : Passed u.near i.near r.near

abbrev pub ReadOn : Bool → Window → List ℕ → Window → List ℕ → Type 0
ReadOn true w room w' room' = Grown w room w' room'
ReadOn false w room w' room' = (w' ≡ w) × (room' ≡ room)

pub record OneRead (j : Input) (i : Inputs) (e f n : List ℕ) (i' : Inputs) (e' f' n' : List ℕ) : Type 0 where
  pub events : ReadOn (is_input Entries j) i.events e i'.events e'
  pub far : ReadOn (is_input FarSide j) i.far f i'.far f'
  pub near : ReadOn (is_input NearSide j) i.near n i'.near n'
