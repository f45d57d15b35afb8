-- What the profile's making returns, from what the scan's own returned: where that was refused, the state for rate 8,000 and ceiling 8.
use Rattle.answers.specs.declared.Change.{Change}
use Rattle.answers.specs.declared.Change.TheVariants as change
use Rattle.scan.specs.State.{new_scan}
use Rattle.scan.specs.Calls.{changed_by}
use Rattle.scan.specs.declared.Changed.{Changed}
use Rattle.scan.specs.declared.Scan.{Scan}

abbrev pub returned_by : Scan → Change → Changed
returned_by s (change.Refused n) = changed_by (change.Refused n) (new_scan 8000 8)
returned_by s change.Done = changed_by change.Done s

unfoldable pub panel_returned : Changed → Changed
panel_returned made = returned_by made.scan made.answer
