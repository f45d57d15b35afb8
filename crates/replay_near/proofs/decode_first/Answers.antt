-- `decode_first` meets its contract: what is decoded is the front of the list.
use Rattle.replay_near.proofs.Decoding.{decode_filled}
use Rattle.replay_near.proofs.decode_first.Goals as goal

pub returns : goal.returns
returns c =
    decode_filled c.args.form c.args.bytes.now c.args.n c.args.samples.now _ c.requires c.decode-count.ensures.1
