-- `take` meets its contract: a finished scan takes nothing; else as many samples as pass.
use Prim.Native.Nat.{ℕ}
use mathlib.Core.Path.{sym, ap, ◌∙◌, subst}
use native.Mathlib.Omega.{arith}
use mathlib.Core.List.{List}
use lib.Ieee.{Float}
use lib.ListN.{drop}
use Rattle.scan_runs.specs.Runs.{Run, ran}
use Rattle.scan_runs.proofs.Going.{ignored, ran_steady}
use Rattle.scan_runs.proofs.Passing.{Steady, steady, judged_again, unfilled}
use Rattle.recording.specs.Samples.{samples_in}
use Rattle.recording.proofs.Forms.{bytes_mono}
use Rattle.replay_stream.proofs.Fronts.{samples_length}
use Rattle.replay_runs.specs.Silences.{scan_at}
use Rattle.replay_runs.proofs.Judging.{opens, near_judged}
use Rattle.replay_runs.proofs.Silently.{decoded_on, passed_most}
use Rattle.replay_runs.proofs.Events.{near_plays}
use Rattle.replay_runs.proofs.near.take.Goals as goal

pub returns-then-finished : goal.returns-then-finished
returns-then-finished c =
    let a = c.args in
    let many = samples_length a.header.form (drop a.at.bytes.near a.near.now) a.count in
    let is = ap (λ (z : ℕ). record { scan = (scan_at a.session a.at); levels = a.levels.now; passed = z }) (sym many) ∙ sym (ignored (scan_at a.session a.at) a.levels.now (samples_in a.header.form (drop a.at.bytes.near a.near.now) a.count) a.first (near_judged (scan_at a.session a.at) a.levels.now c.requires.0.judged c.requires.4) (sym c.finished.ensures ∙ c.if-finished.true)) in
    λ ev fr e bef. rw c.took.ensures (near_plays a.header a.session ev fr a.near.now a.at e a.levels.now c.requires.0 a.count a.first bef a.samples.now c.requires.3 (omega (arith, c.ranges)) a.at.near a.levels.now a.count is (λ q z. (c.requires.0.judged, c.requires.0.unfilled)))

pub walk-walked-requires : goal.walk-walked-requires
walk-walked-requires c =
    let a = c.args in
    let ok = opens (scan_at a.session a.at) a.levels.now c.requires.0.judged c.requires.4 (sym c.finished.ensures ∙ c.if-finished.false) c.requires.0.unfilled in
    record { far = a.at.far; verdict = a.session.scan.verdict; opened = ok }

pub took-requires-2 : goal.took-requires-2
took-requires-2 c =
    let a = c.args in
    let ok = opens (scan_at a.session a.at) a.levels.now c.requires.0.judged c.requires.4 (sym c.finished.ensures ∙ c.if-finished.false) c.requires.0.unfilled in
    let e = decoded_on a.header.form a.near.now a.at.bytes.near a.count _ _ c.decode_first.ensures in
    let is = c.walk-walked.ensures a.at.far a.session.scan.verdict ok ∙ ap (λ (x : List Float). ran (scan_at a.session a.at) a.levels.now x a.first) e in
    let most = passed_most a.header.form (drop a.at.bytes.near a.near.now) a.count (scan_at a.session a.at) a.levels.now a.first _ is in
    let size = bytes_mono a.header.form c.walk-walked.result.passed a.count most in
    (c.requires.1, c.requires.2, omega (arith, size, c.requires.3.there, c.ranges, c.well_formed), omega (arith, c.requires.3.total, c.ranges, c.well_formed), most, c.requires.3.few)

pub returns : goal.returns
returns c =
    let a = c.args in
    let ok = opens (scan_at a.session a.at) a.levels.now c.requires.0.judged c.requires.4 (sym c.finished.ensures ∙ c.if-finished.false) c.requires.0.unfilled in
    let e = decoded_on a.header.form a.near.now a.at.bytes.near a.count _ _ c.decode_first.ensures in
    let is = c.walk-walked.ensures a.at.far a.session.scan.verdict ok ∙ ap (λ (x : List Float). ran (scan_at a.session a.at) a.levels.now x a.first) e in
    let stays = subst (λ (r : Run). Steady r.scan r.levels) (sym is) (ran_steady (samples_in a.header.form (drop a.at.bytes.near a.near.now) a.count) (scan_at a.session a.at) a.levels.now a.first (steady (scan_at a.session a.at) a.levels.now ok)) in
    λ ev fr e bef. rw c.took-2.ensures (near_plays a.header a.session ev fr a.near.now a.at e a.levels.now c.requires.0 a.count a.first bef a.samples.now c.requires.3 (omega (arith, c.ranges)) c.walk-walked.result.near _ c.walk-walked.result.passed is (λ q z. (judged_again _ _ stays z, unfilled _ _ stays)))
