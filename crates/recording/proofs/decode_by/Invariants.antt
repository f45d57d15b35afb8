use Rattle.std.proofs.Common.{◌≡◌, take}
use Rattle.recording.specs.Samples.{samples_in}
use Rattle.recording.proofs.decode_by.Given as goal

abbrev pub invariant-loop-k : goal.invariant-loop-k
invariant-loop-k g l = take l.k l.place-items ≡ samples_in l.fn.form l.s l.k
