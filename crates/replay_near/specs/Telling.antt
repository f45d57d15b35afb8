-- What the calls give back, beside the definitions of replay_stream: a play or a cut as far as it is told.
use Rattle.std.specs.Prelude.{ℕ, ◌*◌, ◌≤◌, min, Bool, List, ◌++◌, Float, length, drop}
use Rattle.scan.specs.State.{Buffers}
use Rattle.recording.specs.Samples.{bytes_of, samples_in}
use Rattle.recording.specs.declared.Form.{Form}
use Rattle.replay.specs.Events.{Play}
use Rattle.replay.specs.declared.Session.{Session}
use Rattle.replay_stream.specs.Stream.{Cut, told}
use Rattle.replay_stream.specs.declared.Answer.{Answer}
use Rattle.replay_near.specs.declared.Played.{Played}
use Rattle.replay_near.specs.declared.NearCut.{NearCut}

-- ---- a play, as far as it is told

pub record Told : Type 0 where
  pub session : Session
  pub answer : Answer
  pub ends : Bool
  pub buffers : Buffers

abbrev pub tells_of : Play → Told
tells_of p = record { session = p.session; answer = told p.lines; ends = p.ends; buffers = p.buffers }

abbrev pub tells : Played → Buffers → Told
tells r b = record { session = r.session; answer = r.answer; ends = r.ends; buffers = b }

-- ---- a near event cut behind its first line

pub record CutTold : Type 0 where
  pub session : Session
  pub answer : Answer
  pub index : ℕ
  pub left : ℕ
  pub buffers : Buffers

abbrev pub cut_tells : Cut → CutTold
cut_tells c = record { session = c.session; answer = told c.lines; index = c.index; left = length c.left; buffers = c.buffers }

abbrev pub cuts_at : NearCut → Buffers → CutTold
cuts_at r b = record { session = r.session; answer = r.answer; index = r.index; left = r.left; buffers = b }

-- ---- the samples of an event, decoded at the start of a buffer

unfoldable pub filled : Form → List ℕ → ℕ → List Float → List Float
filled form bytes n samples = samples_in form bytes n ++ drop n samples

-- so many samples of an event are at hand, and there is room for them
pub record Room (form : Form) (n : ℕ) (bytes : List ℕ) (samples : List Float) : Type 0 where
  pub there : bytes_of form n ≤ length bytes
  pub few : n ≤ 4096
  pub room : n ≤ length samples

-- room for every event whose bytes are at hand: none has more than 4,096 samples, and a sample has two bytes or four
abbrev pub Holds : List ℕ → List Float → Type 0
Holds bytes samples = min (length bytes) 8192 ≤ 2 * length samples
