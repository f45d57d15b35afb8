-- `recording_store::write_header` meets its contract, by direction.
use mathlib.Core.Path.{ap, ◌∙◌}
use mathlib.Core.List.{List}
use Prim.Native.Nat.{ℕ}
use native.Mathlib.Omega.{arith}
use lib.Seq.{sets}
use Rattle.recording.specs.Bytes.{bytes}
use Rattle.recording_store.proofs.Laws.{no_header, header_plain, header_shorts}
use Rattle.recording_store.proofs.write_header.Goals as goal

pub returns-then-out-lt28 : goal.returns-then-out-lt28
returns-then-out-lt28 c = no_header _ _ _ (omega arith)

pub returns-in-ToFloats : goal.returns-in-ToFloats
returns-in-ToFloats c = rw c.in-ToFloats.is (header_plain _ _ _ (omega arith) c.put_fields.ensures)

pub returns-in-ToShorts : goal.returns-in-ToShorts
returns-in-ToShorts c = rw c.in-ToShorts.is (header_shorts _ _ _ (omega arith) (c.put.ensures ∙ ap (λ (l : List ℕ). sets l 24 (bytes 4 2)) c.put_fields-in-ToShorts.ensures))
