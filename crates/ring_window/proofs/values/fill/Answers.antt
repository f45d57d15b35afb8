-- `ring_window::values::fill` meets its contract.
use Rattle.ring_window.proofs.Pastes.{value_pieces}
use Rattle.ring_window.proofs.values.fill.Goals as goal

pub returns : goal.returns
returns c =
    value_pieces c.args.c c.args.buf.now c.args.window.now _ _ _ _ c.requires c.blank.ensures c.copy.ensures c.copy-2.ensures c.blank-2.ensures
