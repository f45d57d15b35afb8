-- `scan_score::refusal::refusal` meets its contract: the refusals in their order.
use mathlib.Core.Path.{sym, ◌∙◌}
use mathlib.Core.Bool.{true, false}
use Rattle.answers.specs.Pick.{pick}
use Rattle.scan_score.specs.Observing.{lent}
use Rattle.scan_score.proofs.Passing.{sound, first_is, refuses_first, refuses_7, refuses_last}
use Rattle.scan_score.proofs.refusal.refusal.Goals as goal

pub all_lengths-lengths-requires : goal.all_lengths-lengths-requires
all_lengths-lengths-requires c = c.geometry_of-due.ensures.small

pub first_refusals-n-requires : goal.first_refusals-n-requires
first_refusals-n-requires c = c.geometry_of-due.ensures.is

pub returns-then-n-ne0 : goal.returns-then-n-ne0
returns-then-n-ne0 c =
    let a = c.args in
    let b = lent a.envelope.now a.levels.now a.window.now a.prefix.now a.squares.now a.scores.now a.sums.now in
    let is = first_is a.slack a.scan b _ _ _ c.geometry_of-due.ensures.is c.all_lengths-lengths.ensures c.first_refusals-n.ensures in
    refuses_first a.slack a.scan b _ is c.if-n-ne0.true

pub returns-then-scan : goal.returns-then-scan
returns-then-scan c =
    let a = c.args in
    let b = lent a.envelope.now a.levels.now a.window.now a.prefix.now a.squares.now a.scores.now a.sums.now in
    let is = first_is a.slack a.scan b _ _ _ c.geometry_of-due.ensures.is c.all_lengths-lengths.ensures c.first_refusals-n.ensures in
    refuses_7 a.slack a.scan b _ is c.if-n-ne0.false c.if-scan.true

pub readable-requires : goal.readable-requires
readable-requires c =
    let a = c.args in
    let b = lent a.envelope.now a.levels.now a.window.now a.prefix.now a.squares.now a.scores.now a.sums.now in
    let is = first_is a.slack a.scan b _ _ _ c.geometry_of-due.ensures.is c.all_lengths-lengths.ensures c.first_refusals-n.ensures in
    sound a.slack a.scan b (sym is ∙ c.if-n-ne0.false)

pub returns-then-readable : goal.returns-then-readable
unfolding pick
returns-then-readable c =
    let a = c.args in
    let b = lent a.envelope.now a.levels.now a.window.now a.prefix.now a.squares.now a.scores.now a.sums.now in
    let is = first_is a.slack a.scan b _ _ _ c.geometry_of-due.ensures.is c.all_lengths-lengths.ensures c.first_refusals-n.ensures in
    refuses_last a.slack a.scan b _ is true c.if-n-ne0.false c.if-scan.false (sym c.if-readable.true ∙ c.readable.ensures)

pub returns : goal.returns
unfolding pick
returns c =
    let a = c.args in
    let b = lent a.envelope.now a.levels.now a.window.now a.prefix.now a.squares.now a.scores.now a.sums.now in
    let is = first_is a.slack a.scan b _ _ _ c.geometry_of-due.ensures.is c.all_lengths-lengths.ensures c.first_refusals-n.ensures in
    refuses_last a.slack a.scan b _ is false c.if-n-ne0.false c.if-scan.false (sym c.if-readable.false ∙ c.readable.ensures)
