-- `log_report::write_report` meets its contract.
use Rattle.log_report.specs.Texts.{report_text}
use Rattle.log_report.proofs.Lengths.{told_all, told_none}
use Rattle.log_report.specs.Calls.{report_room, reported, reported_out}
use Rattle.log_report.proofs.write_report.Goals as goal

pub returns-then-out-lt1024 : goal.returns-then-out-lt1024
unfolding reported reported_out
returns-then-out-lt1024 c = told_none report_room c.args.out.now (report_text c.args.report) c.if-out-lt1024.true

pub returns : goal.returns
unfolding reported reported_out
returns c = told_all report_room _ _ _ _ c.if-out-lt1024.false c.put_report-n.ensures
