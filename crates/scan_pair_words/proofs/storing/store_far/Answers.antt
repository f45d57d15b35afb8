-- `scan_pair_words::storing::store_far` meets its contract.
use Prim.Native.Nat.{ℕ}
use mathlib.Core.Path.{ap}
use mathlib.Core.List.{List}
use Rattle.scan_words.specs.Layout.{scan_words}
use Rattle.scan_pair_words.specs.Layout.{with_part, far_stored}
use Rattle.scan_pair_words.proofs.storing.store_far.Goals as goal

pub returns : goal.returns
unfolding far_stored
returns c = ap (λ (l : List ℕ). with_part 0 scan_words c.args.state.now l) c.store_far.ensures
