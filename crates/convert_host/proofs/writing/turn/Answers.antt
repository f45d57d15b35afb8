-- `convert_host::writing::turn` meets its contract.
use mathlib.Core.Path.{◌∙◌}
use Rattle.convert_host.proofs.writing.turn.Goals as goal

pub admitted_turn-requires : goal.admitted_turn-requires
admitted_turn-requires c =
    let rooms = c.requires.1 in
    (c.ready-work.ensures, record { er = c.ready-work.auto.er ∙ rooms.er; eo = rooms.eo; fr = rooms.fr; fo = rooms.fo; nr = rooms.nr; no = rooms.no })

pub shape_of-er-in-Some : goal.shape_of-er-in-Some
shape_of-er-in-Some c = c.ready-work.auto.er
