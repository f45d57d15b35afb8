use Rattle.std.proofs.Common.{◌≡◌, ◌++◌, map, take, drop}
use Rattle.floats.specs.Functions.{root_bits}
use Rattle.floats_face.proofs.write_roots.Given as goal

abbrev pub invariant-loop-number : goal.invariant-loop-number
invariant-loop-number l = l.list ≡ map root_bits (take l.number-index l.initial.list) ++ drop l.number-index l.initial.list
