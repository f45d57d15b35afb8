-- `recording_store::put_fields` meets its contract: field by field.
use mathlib.Core.Path.{ap, ◌∙◌}
use mathlib.Core.List.{List}
use Prim.Native.Nat.{ℕ}
use lib.Seq.{sets}
use Rattle.recording.specs.Bytes.{bytes}
use Rattle.recording_store.proofs.put_fields.Goals as goal

pub returns : goal.returns
returns c =
    let from = c.args in
    c.put-6.ensures
    ∙ ap (λ (l : List ℕ). sets l 20 (bytes 4 from.header.near)) (c.put-5.ensures
    ∙ ap (λ (l : List ℕ). sets l 16 (bytes 4 from.header.far)) (c.put-4.ensures
    ∙ ap (λ (l : List ℕ). sets l 12 (bytes 4 from.offset)) (c.put-3.ensures
    ∙ ap (λ (l : List ℕ). sets l 8 (bytes 4 from.header.events)) (c.put-2.ensures
    ∙ ap (λ (l : List ℕ). sets l 4 (bytes 4 from.header.ceiling)) c.put.ensures))))
