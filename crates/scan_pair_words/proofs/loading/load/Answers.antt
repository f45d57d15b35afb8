-- `scan_pair_words::loading::load` meets its contract.
use Rattle.scan_pair_words.specs.Layout.{loaded_pair}
use Rattle.scan_pair.proofs.Channels.{side_zero, side_one}
use Rattle.scan_pair_words.proofs.loading.load.Goals as goal

pub returns : goal.returns
unfolding loaded_pair
returns c = cc (c.load_parts.ensures, c.words_of.ensures.words, c.words_of-2.ensures.words, side_zero, side_one)
