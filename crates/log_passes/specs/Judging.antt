-- One log judged from the bytes at hand, a line at a time.
use Rattle.std.specs.Prelude.{ℕ, ◌+◌, List, take, None, Option, Some}
use Rattle.answers.specs.Numbers.{next_long_count}
use Rattle.log_text.specs.Cut.{longest}
use Rattle.log_parts.specs.Judged.{judged_text}
use Rattle.log_parts.specs.declared.Judged.{Judged}
use Rattle.log_passes.specs.declared.taking.Taken.{Taken}
use Rattle.log_passes.specs.declared.taking.Taken.TheVariants as taken
use Rattle.log_passes.specs.declared.judging.Judging.{Judging}
use Rattle.log_passes.specs.declared.judging.Judgement.{Judgement}
use Rattle.log_passes.specs.declared.judging.Look.TheVariants.{Goes, Wants, Over, Strange}

-- before the first line
abbrev pub unread : Judging
unread = record { frames = None; cycles = None; place = 1 }

-- a line of n bytes, with which so many are used
unfoldable pub judged_as : Judging → ℕ → ℕ → Option Judged → Judgement
judged_as j used n (Some g) = record { judging = record { frames = g.frames; cycles = g.cycles; place = next_long_count j.place }; look = Goes used }
judged_as j used n None = record { judging = j; look = Strange n }

-- a line longer than any of a log is told by one byte more than these have
unfoldable pub judged_in : Judging → List ℕ → Taken → Judgement
judged_in j bytes (taken.Text n used) = judged_as j used n (judged_text j.frames j.cycles (take n bytes))
judged_in j bytes taken.Nothing = record { judging = j; look = Over }
judged_in j bytes taken.Wants = record { judging = j; look = Wants }
judged_in j bytes taken.Long = record { judging = j; look = Strange (longest + 1) }
