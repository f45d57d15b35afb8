-- Every row of the table holds, by computation of the definitions.
use mathlib.Core.Path.{refl}
use lib.Count.{count_trailing_zeros}
use lib.Ieee
use lib.Ieee.{of_bits, to_bits, of_fields, of_int, round, size, climb, units, odd, add, sum, mul, div, lt, eq, le}
use Rattle.answers.specs.Pick.{pick}
use Rattle.floats.specs.Functions.{magnitude, narrow_bits, root_bits, narrow, root, root_ratio, whole_root, isqrt}
use Rattle.folds.specs.Sums.{upto, all_finite}
use Rattle.scan.specs.Bins.{geometry_of}
use Rattle.scan.specs.Scoring.{at_ceiling}
use Rattle.tracker.specs.Tracker.{bands_of, same_bands, state_refusal, fresh}
use Rattle.tracker.specs.Cycle.{unconfident_cycle, edge_cycle, jumped, outside_bands, confirmed, landing, contradicts, escalated, outside_cycle, interior_cycle, judged, cycle_refusal, cycled}
use Rattle.fine.specs.State.{doubled_to, transform_of, lengths_of, new_with, same_lengths, keeps_rules, first_refusals}
use Rattle.fine.specs.Calls.{changed, making_refusal, made, relocate_refusal, relocated}
use Rattle.fine.specs.Calls as fine
use Rattle.fine_peak.specs.Peak.{crest_of, heights_of, ratio_of, weak, ruled, peak_refusal, searched}
use Rattle.rows.specs.Table.{rows, All, among, entries}

pub rows_hold : All rows
unfolding pick geometry_of at_ceiling bands_of same_bands state_refusal fresh unconfident_cycle edge_cycle jumped outside_bands confirmed landing contradicts escalated outside_cycle interior_cycle judged cycle_refusal cycled searched ruled peak_refusal heights_of ratio_of weak relocated relocate_refusal fine.state_refusal made making_refusal changed new_with lengths_of transform_of doubled_to same_lengths keeps_rules first_refusals among entries crest_of upto all_finite magnitude narrow_bits root_bits narrow root root_ratio whole_root isqrt of_bits to_bits of_fields of_int round size lib.Ieee.span climb units odd count_trailing_zeros add sum mul div lt eq le
rows_hold = (refl, (refl, (refl, (refl, (refl, (refl, (refl, (refl, (refl, (refl, (refl, (refl, (refl, (refl, (refl, (refl, (refl, (refl, tt))))))))))))))))))
