-- `hear` meets its contract: a push that is refused, and one that is heard.
use Prim.Native.Nat.{◌+◌, ◌≤◌}
use mathlib.Core.Path.{sym, ap, ◌∙◌}
use mathlib.Core.Bool.{true}
use native.Mathlib.Omega.{arith}
use lib.ListN.{length, drop}
use borrow.Author.Tests.{not-false}
use Rattle.answers.specs.Numbers.{limit}
use Rattle.folds.specs.Sums.{all_finite}
use Rattle.scan_push.proofs.Pushing.{room}
use Rattle.recording.specs.Samples.{samples_in}
use Rattle.replay_stream.proofs.Fronts.{samples_length}
use Rattle.replay_runs.specs.Silences.{scan_at}
use Rattle.replay_runs.proofs.Judging.{ready}
use Rattle.replay_runs.proofs.Silently.{decoded_on}
use Rattle.replay_runs.proofs.Events.{halts, far_plays}
use Rattle.replay_runs.proofs.far.hear.Goals as goal

pub overflow_add-before : goal.overflow_add-before
overflow_add-before c =
    let a = c.args in
    omega (arith, room (scan_at a.session a.at) true c.requires.0.judged, c.ranges, c.well_formed)

pub returns-then-before-count-gt-LIMIT : goal.returns-then-before-count-gt-LIMIT
returns-then-before-count-gt-LIMIT c =
    let a = c.args in
    λ ev nr l bef. rw c.halt.ensures (halts a.header a.session ev a.far.now nr a.at a.envelope.now l bef.inside c.requires.0)

pub returns-then-not-all_finite : goal.returns-then-not-all_finite
returns-then-not-all_finite c =
    let a = c.args in
    λ ev nr l bef. rw c.halt-then-not-all_finite.ensures (halts a.header a.session ev a.far.now nr a.at a.envelope.now l bef.inside c.requires.0)

pub hear_all-after-requires : goal.hear_all-after-requires
hear_all-after-requires c =
    let a = c.args in
    let e = decoded_on a.header.form a.far.now a.at.bytes.far a.count _ _ c.decode_first.ensures in
    let fine = ap all_finite (sym e) ∙ sym c.all_finite.ensures ∙ not-false _ c.if-not-all_finite.false-raw in
    let room : a.at.far.accepted + length (samples_in a.header.form (drop a.at.bytes.far a.far.now) a.count) ≤ limit = omega (arith, c.if-before-count-gt-LIMIT.false, samples_length a.header.form (drop a.at.bytes.far a.far.now) a.count) in
    rw e (ready (scan_at a.session a.at) a.envelope.now (samples_in a.header.form (drop a.at.bytes.far a.far.now) a.count) c.requires.0.judged c.requires.4 room fine)

pub heard-requires : goal.heard-requires
heard-requires c =
    let a = c.args in
    (c.requires.1, c.requires.2, omega (arith, c.requires.3.there, c.ranges, c.well_formed), omega (arith, c.requires.3.total, c.ranges, c.well_formed))

pub returns : goal.returns
returns c =
    let a = c.args in
    let e = decoded_on a.header.form a.far.now a.at.bytes.far a.count _ _ c.decode_first.ensures in
    let fine = ap all_finite (sym e) ∙ sym c.all_finite.ensures ∙ not-false _ c.if-not-all_finite.false-raw in
    let heard = c.hear_all-after.ensures in
    λ ev nr l bef. rw (c.heard.ensures, heard.far, heard.envelope, e) (far_plays a.header a.session ev a.far.now nr a.at a.envelope.now l c.requires.0 a.count bef a.samples.now c.requires.3 c.requires.4 (omega (arith, c.if-before-count-gt-LIMIT.false)) fine)
