-- `recording_make::plan_from` meets its contract.
use mathlib.Core.Path.{sym, ap, ◌∙◌}
use Rattle.answers.proofs.Passed.{within_most}
use Rattle.recording.specs.declared.Form.{Form}
use Rattle.recording_make.proofs.Laws.{within_least, plan_fits}
use Rattle.answers.proofs.Cases.{cases}
use Rattle.recording_make.specs.Making.{plan_of, planned}
use Rattle.std.specs.Prelude.{Ok}
use Rattle.recording_make.proofs.plan_from.Goals as goal

pub returns-then-not-same_kind : goal.returns-then-not-same_kind
unfolding planned
returns-then-not-same_kind c = search (cases, ← c.same_kind.ensures)

pub returns-then-rate-near : goal.returns-then-rate-near
unfolding planned
returns-then-rate-near c = search (cases, ← c.same_kind.ensures)

pub returns-then-not-allowed_rate : goal.returns-then-not-allowed_rate
unfolding planned
returns-then-not-allowed_rate c = search (cases, ← c.same_kind.ensures, ← c.allowed_rate.ensures)

pub returns-then-not-allowed_ceiling : goal.returns-then-not-allowed_ceiling
unfolding planned
returns-then-not-allowed_ceiling c = search (cases, ← c.same_kind.ensures, ← c.allowed_rate.ensures, ← c.allowed_ceiling.ensures)

pub returns-then-not-within_limit : goal.returns-then-not-within_limit
unfolding planned
returns-then-not-within_limit c = search (cases, ← c.same_kind.ensures, ← c.allowed_rate.ensures, ← c.allowed_ceiling.ensures, ← c.within_limit.ensures)

pub plan_of-requires : goal.plan_of-requires
plan_of-requires c =
    let rate = sym c.allowed_rate.ensures ∙ c.if-not-allowed_rate.false in
    (within_least 8000 192000 _ rate, within_most 8000 192000 _ rate)

pub returns : goal.returns
returns c =
    let a = c.args in
    ap Ok (c.plan_of.ensures ∙ ap (λ (form : Form). plan_of form a.far.rate a.ceiling a.far.frames a.near.frames a.start) c.form_of-form.ensures) ∙
    sym (
    plan_fits a.far a.near a.ceiling a.start
    (search (cases, ← c.same_kind.ensures))
    (search (cases))
    (search (cases, ← c.allowed_rate.ensures))
    (search (cases, ← c.allowed_ceiling.ensures))
    (search (cases, ← c.within_limit.ensures))
    )
