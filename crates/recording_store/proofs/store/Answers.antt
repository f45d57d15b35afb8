-- `recording_store::store` meets its contract: by what is there, what there is room for, and what was found.
use mathlib.Core.Path.{ap, ◌∙◌}
use native.Mathlib.Omega.{arith}
use Rattle.recording.specs.Samples.{bytes_of}
use Rattle.recording.specs.declared.Form.{Form}
use Rattle.std.specs.Prelude.{Ok}
use Rattle.recording_store.proofs.Laws.{few_bytes, no_room, strange_told, none_found, all_told}
use Rattle.recording_store.proofs.store.Goals as goal

pub returns-then-s-bytes_of : goal.returns-then-s-bytes_of
returns-then-s-bytes_of c =
    let a = c.args in
    few_bytes a.direction a.s.now a.count a.out.now (omega (arith, (c.bytes_of.ensures ∙ ap (λ (f : Form). bytes_of f a.count) c.form_from.ensures)))

pub returns-then-out-given : goal.returns-then-out-given
returns-then-out-given c =
    let a = c.args in
    no_room a.direction a.s.now a.count a.out.now (omega (arith, (c.bytes_of-given.ensures ∙ ap (λ (f : Form). bytes_of f a.count) c.form_to.ensures)))

pub fine_samples-fine-requires : goal.fine_samples-fine-requires
fine_samples-fine-requires c =
    let a = c.args in
    omega (arith, (c.bytes_of.ensures ∙ ap (λ (f : Form). bytes_of f a.count) c.form_from.ensures))

pub returns-then-fine-count : goal.returns-then-fine-count
returns-then-fine-count c =
    let a = c.args in
    strange_told a.direction a.s.now a.count a.out.now (omega (arith, (c.bytes_of.ensures ∙ ap (λ (f : Form). bytes_of f a.count) c.form_from.ensures))) (omega (arith, (c.bytes_of-given.ensures ∙ ap (λ (f : Form). bytes_of f a.count) c.form_to.ensures))) c.fine_samples-fine.result (omega arith) c.fine_samples-fine.ensures.1

pub write_samples-requires : goal.write_samples-requires
write_samples-requires c =
    let a = c.args in
    (omega (arith, (c.bytes_of.ensures ∙ ap (λ (f : Form). bytes_of f a.count) c.form_from.ensures)), omega (arith, (c.bytes_of-given.ensures ∙ ap (λ (f : Form). bytes_of f a.count) c.form_to.ensures)), none_found a.direction a.s.now a.count a.out.now c.fine_samples-fine.result (omega arith) c.fine_samples-fine.ensures.1)

pub returns : goal.returns
returns c =
    let a = c.args in
    let none = none_found a.direction a.s.now a.count a.out.now c.fine_samples-fine.result (omega arith) c.fine_samples-fine.ensures.1 in
    let given = (c.bytes_of-given.ensures ∙ ap (λ (f : Form). bytes_of f a.count) c.form_to.ensures) in
    let told = all_told a.direction a.s.now a.count a.out.now (omega (arith, (c.bytes_of.ensures ∙ ap (λ (f : Form). bytes_of f a.count) c.form_from.ensures))) (omega (arith, given)) none _ c.write_samples.ensures in
    (ap Ok given ∙ told.0, told.1)
