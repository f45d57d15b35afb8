-- Near samples in runs (request a), on a channel of a pair: the scan's own run on what that channel sees.
use Rattle.std.specs.Prelude.{ℕ, List, Float}
use Rattle.scan_handover.specs.Handover.{handed}
use Rattle.scan_handover.specs.declared.RunTaking.TheVariants as run
use Rattle.scan_pair.specs.State.{Named, no_such_channel, on_channel}
use Rattle.scan_pair.specs.Calls.{left_in, scan_of}
use Rattle.scan_pair.specs.declared.Pair.{Pair}
use Rattle.scan_pair_calls.specs.declared.PairHanded.{PairHanded}

-- lent: the named channel's near levels
pub record PairRun : Type 0 where
  pub handed : PairHanded
  pub levels : List Float

unfoldable pub pair_handed : Pair → Named → List Float → List Float → ℕ → PairRun
pair_handed p n levels xs first =
    on_channel n (record { handed = record { pair = p; answer = run.Refused no_such_channel }; levels = levels })
    (λ d. let q = handed (scan_of p d) levels xs first in
    record { handed = record { pair = left_in p d q.handed.scan; answer = q.handed.answer }; levels = q.levels })
