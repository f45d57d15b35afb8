-- What the inputs of a recording are made of.
use Rattle.std.specs.Prelude.{ℕ, ◌<◌, List, get_or}
use Rattle.recording_convert.specs.Whole.{Recording}

-- Every element is a byte.
pub record AreBytes (s : List ℕ) : Type 0 where
  pub each : (k : ℕ) → get_or s k 0 < 256

pub record OfBytes (r : Recording) : Type 0 where
  pub events : AreBytes r.events
  pub far : AreBytes r.far
  pub near : AreBytes r.near
