-- A conversion on its way is in order: its three sides are.
use Rattle.std.specs.Prelude.{ℕ, ◌≡◌, List, length}
use Rattle.convert_side.specs.Side.{Fits}
use Rattle.convert_host.specs.declared.writing.Work.{Work}

pub record AllFit (w : Work) : Type 0 where
  pub events : Fits w.events
  pub far : Fits w.far
  pub near : Fits w.near

-- A room of the input and one of the output for each side: the events, the far samples and the near ones.
pub record Rooms (a b c d e f : List ℕ) : Type 0 where
  pub er : length a ≡ 65536
  pub eo : length b ≡ 65536
  pub fr : length c ≡ 65536
  pub fo : length d ≡ 65536
  pub nr : length e ≡ 65536
  pub no : length f ≡ 65536
