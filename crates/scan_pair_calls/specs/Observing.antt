-- A scored frame of a channel: what came back, with the lent lists as they are then.
use Rattle.scan.specs.State.{Buffers}
use Rattle.scan_pair.specs.Calls.{PairObservation}
use Rattle.scan_pair.specs.declared.PairScored.{PairScored}

abbrev pub pair_saw : PairScored → Buffers → PairObservation
pair_saw r b = record { scored = r; buffers = b }
