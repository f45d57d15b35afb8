use Rattle.std.proofs.Common.{◌≡◌, drop}
use mathlib.Core.List.{foldl}
use Rattle.log_lines.specs.Steps.{after_byte, seen_in}
use Rattle.log_lines.proofs.look.Given as goal

abbrev pub invariant-loop-byte : goal.invariant-loop-byte
invariant-loop-byte l = foldl after_byte l.seen (drop l.byte-index l.text) ≡ seen_in l.text
