-- `scan_pair_words::storing::store_settings` meets its contract.
use Rattle.scan_pair_words.proofs.storing.store_settings.Goals as goal

pub returns : goal.returns
returns c = cc
