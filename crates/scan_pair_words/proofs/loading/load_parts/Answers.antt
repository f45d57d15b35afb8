-- `scan_pair_words::loading::load_parts` meets its contract.
use Rattle.scan_pair_words.proofs.loading.load_parts.Goals as goal

pub returns : goal.returns
returns c = cc
