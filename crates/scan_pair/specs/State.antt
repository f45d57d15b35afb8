-- "One far history serves two near scans, each with its own near frame, sums and verdict; window and prefixes are shared scratch."
-- A channel with the common part is a scan, so that every rule, refusal and call is the scan's own.
use Rattle.std.specs.Prelude.{ℕ, List, eqb, Float}
use Rattle.answers.specs.Pick.{pick}
use Rattle.scan.specs.Bins.{geometry_of}
use Rattle.scan.specs.State.{Buffers, World, new_far, new_near, new_verdict}
use Rattle.scan.specs.declared.Geometry.{Geometry}
use Rattle.scan.specs.declared.Far.{Far}
use Rattle.scan.specs.declared.Scan.{Scan}
use Rattle.scan_pair.specs.declared.Channel.{Channel}
use Rattle.scan_pair.specs.declared.Pair.{Pair}

-- ---- channel numbers

-- channel 0 and channel 1
pub data Side : Type 0 where
  first second : Side

abbrev pub other : Side → Side
other first = second
other second = first

abbrev pub number_of : Side → ℕ
number_of first = 0
number_of second = 1

-- what a channel number names
pub data Named : Type 0 where
  channel : Side → Named
  unknown : Named

unfoldable pub named : ℕ → Named
named c = pick (eqb c 0) (channel first) (pick (eqb c 1) (channel second) unknown)

-- the channel that a number below 2 names
abbrev pub side_of : ℕ → Side
side_of c = pick (eqb c 0) first second

-- "11, channel number not 0 or 1"
abbrev pub no_such_channel : ℕ
no_such_channel = 11

-- "before all others": a number that names no channel is refused, and nothing else is looked at
abbrev pub on_channel : {A : Type 0} → Named → A → (Side → A) → A
on_channel unknown refused call = refused
on_channel (channel d) refused call = call d

-- ---- the pair

abbrev pub new_channel : Channel
new_channel = record { near = new_near; verdict = new_verdict }

abbrev pub restarted : Geometry → Pair
restarted g = record { geometry = g; far = new_far; first = new_channel; second = new_channel }

abbrev pub new_pair : ℕ → ℕ → Pair
new_pair rate ceiling = restarted (geometry_of rate ceiling)

abbrev pub chosen : Pair → Side → Channel
chosen p first = p.first
chosen p second = p.second

abbrev pub with_channel : Pair → Side → Channel → Pair
with_channel p first k = record { geometry = p.geometry; far = p.far; first = k; second = p.second }
with_channel p second k = record { geometry = p.geometry; far = p.far; first = p.first; second = k }

abbrev pub pair_with_far : Pair → Far → Pair
pair_with_far p f = record { geometry = p.geometry; far = f; first = p.first; second = p.second }

-- a channel with the common part is a scan
abbrev pub as_scan : Pair → Channel → Scan
as_scan p k = record { geometry = p.geometry; far = p.far; near = k.near; verdict = k.verdict }

abbrev pub channel_of : Scan → Channel
channel_of s = record { near = s.near; verdict = s.verdict }

-- The common part, judged as a scan whose channel is new. A new channel breaks no rule, so that 3 is the geometry's or the far side's (`common_judges`).
abbrev pub common : Pair → Scan
common p = as_scan p new_channel

-- ---- the buffers: one far envelope, near levels and lag sums a channel, and scratch that any call may be lent again

pub record ChannelBuffers : Type 0 where
  pub levels : List Float
  pub lag_sums : List Float

pub record PairBuffers : Type 0 where
  pub envelope : List Float
  pub first : ChannelBuffers
  pub second : ChannelBuffers
  pub window : List Float
  pub prefix : List Float
  pub squares : List Float
  pub scores : List Float

pub record PairWorld : Type 0 where
  pub pair : Pair
  pub buffers : PairBuffers

abbrev pub own_buffers : PairBuffers → Side → ChannelBuffers
own_buffers b first = b.first
own_buffers b second = b.second

-- the seven buffers of a channel's calls
abbrev pub buffers_of : PairBuffers → Side → Buffers
buffers_of b d =
    record {
      envelope = b.envelope;
      levels = (own_buffers b d).levels;
      window = b.window;
      prefix = b.prefix;
      squares = b.squares;
      scores = b.scores;
      lag_sums = (own_buffers b d).lag_sums;
    }

-- what channel d has to do with: its scan, and the buffers of its calls
abbrev pub seen : PairWorld → Side → World
seen w d = record { scan = as_scan w.pair (chosen w.pair d); buffers = buffers_of w.buffers d }

-- what a call of channel d leaves in these; the envelope is only read
abbrev pub put_back : PairBuffers → Side → Buffers → PairBuffers
put_back b first l =
    record {
      envelope = b.envelope;
      first = record { levels = l.levels; lag_sums = l.lag_sums };
      second = b.second;
      window = l.window;
      prefix = l.prefix;
      squares = l.squares;
      scores = l.scores;
    }
put_back b second l =
    record {
      envelope = b.envelope;
      first = b.first;
      second = record { levels = l.levels; lag_sums = l.lag_sums };
      window = l.window;
      prefix = l.prefix;
      squares = l.squares;
      scores = l.scores;
    }
