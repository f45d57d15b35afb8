-- `convert_host::writing::write_in` is safe and ends.
use mathlib.Core.Path.{◌∙◌}
use Rattle.convert_host.proofs.writing.write_in.Goals as goal

pub all-last-requires : goal.all-last-requires
all-last-requires c =
    let rooms = c.requires in
    (c.first.ensures, record { er = rooms.er; eo = c.write_header-held.auto.out ∙ rooms.eo; fr = rooms.fr; fo = rooms.fo; nr = rooms.nr; no = rooms.no })

pub shape_of-er : goal.shape_of-er
shape_of-er c = c.all-last.auto.er

pub shape_of-eo : goal.shape_of-eo
shape_of-eo c = c.all-last.auto.eo ∙ c.write_header-held.auto.out
