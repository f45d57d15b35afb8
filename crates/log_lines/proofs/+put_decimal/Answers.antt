-- `log_lines::put_decimal` meets its contract: all digits but the last by itself, for a number a tenth as large, and then the last.
use Rattle.std.proofs.Common.{arith}
use Rattle.log_lines.proofs.Laws.{put_one, put_more, tenth_short}
use Rattle.log_lines.proofs.+put_decimal.Goals as goal

pub returns-then-n-lt10 : goal.returns-then-n-lt10
returns-then-n-lt10 t c = put_one _ _ _ _ c.if-n-lt10.true c.digit.ensures

pub bounds-out-last : goal.bounds-out-last
bounds-out-last t c = omega (arith, tenth_short c.args.n c.ranges.n.fits)

pub overflow_add-result-2 : goal.overflow_add-result-2
overflow_add-result-2 t c = omega (arith, tenth_short c.args.n c.ranges.n.fits)

pub returns : goal.returns
returns t c = put_more _ _ c.ranges.n.fits c.if-n-lt10.false c.digit-2.ensures c.put_decimal-last.ensures
