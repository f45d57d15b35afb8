-- `scan_pair_words::storing::store_common` meets its contract.
use Prim.Native.Nat.{ℕ}
use mathlib.Core.Path.{ap}
use mathlib.Core.List.{List}
use Rattle.scan_words.specs.Layout.{scan_words}
use Rattle.scan_pair_words.specs.Layout.{with_part, common_stored}
use Rattle.scan_pair_words.proofs.storing.store_common.Goals as goal

pub returns : goal.returns
unfolding common_stored
returns c = ap (λ (l : List ℕ). with_part 0 scan_words c.args.state.now l) c.store_settings.ensures
