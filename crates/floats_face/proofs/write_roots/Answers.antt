-- `floats_face::write_roots` meets its contract. Invariant: the numbers before this one are replaced by their roots.
use Rattle.std.proofs.Common.{get_or, arith}
use Rattle.std.proofs.lemmas.List.{get_or_default}
use Rattle.std.proofs.lemmas.List.Edits.{map_over_more}
use Rattle.floats.specs.Functions.{root_bits}
use Rattle.floats.proofs.Laws.{root_bits_only}
use Rattle.floats_face.proofs.write_roots.Goals as goal

pub loop-number-preserved : goal.loop-number-preserved
loop-number-preserved c =
    let l = c.loop-number in
    let number = get_or l.list l.number-index 0 in
    let same = get_or_default l.list l.number-index 0 number (omega arith) in
    rw (root_bits_only _ _ c.root_bits_with.ensures) (map_over_more root_bits c.args.list.now l.list l.number-index number (omega arith) l.invariant same)
