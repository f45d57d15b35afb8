-- `log_report::all_alike` meets its contract: each test is taken with all before it.
use Rattle.std.proofs.Common.{◌≡◌, refl, ◌∙◌}
use Rattle.answers.specs.Pick.{both}
use Rattle.log_report.specs.Texts.{alike, all_alike}
use Rattle.log_report.proofs.Lengths.{alike_none, both_yes, both_no, both_five}
use Rattle.log_report.proofs.all_alike.Goals as goal
use Rattle.log_report.proofs.all_alike.Goals.{then-is_none, else-is_none, then-is_none-2, else-is_none-2, then-is_none-3, else-is_none-3}

pub returns-then-is_none-4 : goal.returns-then-is_none-4
unfolding all_alike
returns-then-is_none-4 c =
    let r = c.args.report in
    let one : c.is_none.result ≡ alike r.headers = alike_none r.headers _ c.is_none.ensures in
    let two : c.if-is_none.value ≡ both (alike r.headers) (alike r.frames) =
    elim c.if-is_none.branch [
      | then-is_none w ↦ both_yes w.value-is (alike_none r.frames _ w.is_none-then-is_none.ensures) one w.if-is_none.true
      | else-is_none w ↦ both_no _ w.value-is one w.if-is_none.false
    ] in
    let three : c.if-is_none-2.value ≡ both (both (alike r.headers) (alike r.frames)) (alike r.cycles) =
    elim c.if-is_none-2.branch [
      | then-is_none-2 w ↦ both_yes w.value-is (alike_none r.cycles _ w.is_none-then-is_none-2.ensures) two w.if-is_none-2.true
      | else-is_none-2 w ↦ both_no _ w.value-is two w.if-is_none-2.false
    ] in
    let four : c.if-is_none-3.value ≡ both (both (both (alike r.headers) (alike r.frames)) (alike r.cycles)) (alike r.refusals) =
    elim c.if-is_none-3.branch [
      | then-is_none-3 w ↦ both_yes w.value-is (alike_none r.refusals _ w.is_none-then-is_none-3.ensures) three w.if-is_none-3.true
      | else-is_none-3 w ↦ both_no _ w.value-is three w.if-is_none-3.false
    ] in
    both_yes refl (alike_none r.closings _ c.is_none-then-is_none-4.ensures) four c.if-is_none-4.true ∙ both_five _ _ _ _ (alike r.closings)

pub returns-else-is_none-4 : goal.returns-else-is_none-4
unfolding all_alike
returns-else-is_none-4 c =
    let r = c.args.report in
    let one : c.is_none.result ≡ alike r.headers = alike_none r.headers _ c.is_none.ensures in
    let two : c.if-is_none.value ≡ both (alike r.headers) (alike r.frames) =
    elim c.if-is_none.branch [
      | then-is_none w ↦ both_yes w.value-is (alike_none r.frames _ w.is_none-then-is_none.ensures) one w.if-is_none.true
      | else-is_none w ↦ both_no _ w.value-is one w.if-is_none.false
    ] in
    let three : c.if-is_none-2.value ≡ both (both (alike r.headers) (alike r.frames)) (alike r.cycles) =
    elim c.if-is_none-2.branch [
      | then-is_none-2 w ↦ both_yes w.value-is (alike_none r.cycles _ w.is_none-then-is_none-2.ensures) two w.if-is_none-2.true
      | else-is_none-2 w ↦ both_no _ w.value-is two w.if-is_none-2.false
    ] in
    let four : c.if-is_none-3.value ≡ both (both (both (alike r.headers) (alike r.frames)) (alike r.cycles)) (alike r.refusals) =
    elim c.if-is_none-3.branch [
      | then-is_none-3 w ↦ both_yes w.value-is (alike_none r.refusals _ w.is_none-then-is_none-3.ensures) three w.if-is_none-3.true
      | else-is_none-3 w ↦ both_no _ w.value-is three w.if-is_none-3.false
    ] in
    both_no _ refl four c.if-is_none-4.false ∙ both_five _ _ _ _ (alike r.closings)
