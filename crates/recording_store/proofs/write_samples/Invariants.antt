use mathlib.Core.Path.{◌≡◌}
use mathlib.Core.List.{◌++◌}
use lib.ListN.{drop}
use Rattle.recording.specs.Samples.{bytes_of}
use Rattle.recording_convert.specs.Converting.{form_to, stored}
use Rattle.recording_store.proofs.write_samples.Given as goal

abbrev pub invariant-loop-i : goal.invariant-loop-i
invariant-loop-i l = l.out ≡ stored l.direction l.s l.i ++ drop (bytes_of (form_to l.direction) l.i) l.initial.out
