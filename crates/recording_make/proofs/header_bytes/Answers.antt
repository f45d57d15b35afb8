-- `recording_make::header_bytes` meets its contract.
use native.Mathlib.Omega.{arith}
use mathlib.Core.Path.{ap, ◌∙◌}
use Rattle.recording.specs.Bytes.{bytes}
use Rattle.recording_make.proofs.Laws.{offset_most, kind_room, joined}
use Rattle.recording_make.proofs.header_bytes.Goals as goal

pub overflow_cast-offset_of : goal.overflow_cast-offset_of
overflow_cast-offset_of c = omega (arith, offset_most c.args.h.form, c.offset_of.ensures)

pub returns : goal.returns
returns c =
    let form = c.args.h.form in
    joined _ _ _ _ _ _ _ c.four-rate.ensures (
    joined _ _ _ _ _ _ _ c.four-ceiling.ensures (
    joined _ _ _ _ _ _ _ c.four-events.ensures (
    joined _ _ _ _ _ _ _ (c.four-offset.ensures ∙ ap (bytes 4) c.offset_of.ensures) (
    joined _ _ _ _ _ _ _ c.four-far.ensures (
    joined _ _ _ _ _ _ _ c.four-near.ensures (
    c.four-kind.ensures ∙ ap (bytes 4) c.kind_number.ensures ∙ kind_room form))))))
