-- `scan_pair_words::storing::store` meets its contract.
use Rattle.scan_pair_words.specs.Layout.{stored_pair}
use Rattle.scan_pair.proofs.Channels.{side_zero, side_one}
use Rattle.scan_pair_words.proofs.storing.store.Goals as goal

pub returns : goal.returns
unfolding stored_pair
returns c = cc (c.store_common.ensures, c.store_in.ensures, c.store_in-2.ensures, side_zero, side_one)
