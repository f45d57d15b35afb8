-- What a turn over near samples alone has at hand.
use Rattle.std.specs.Prelude.{ℕ, false, List, []}
use Rattle.replay_stream.specs.Stream.{Hand}
use Rattle.replay_stream.specs.Giving.{piece}

abbrev pub near_hand : List ℕ → Hand
near_hand near = record { events = piece [] false; far = piece [] false; near = piece near false }
