-- Two logs from the bytes at hand, by one sort of lines.
use Rattle.std.specs.Prelude.{ℕ, Bool, List, [], take, Option, Some, None}
use Rattle.answers.specs.Numbers.{next_long_count}
use Rattle.answers.specs.Pick.{pick}
use Rattle.log_lines.specs.Lines.{text_of}
use Rattle.log_lines.specs.declared.Line.{Line}
use Rattle.log_text.specs.Text.{same_text}
use Rattle.log_parts.specs.Sorts.{is_of, number_of, differ}
use Rattle.log_parts.specs.Named.{line_in}
use Rattle.log_parts.specs.Merge.{or_else, unmarked}
use Rattle.log_parts.specs.Turns.{turn_of}
use Rattle.log_parts.specs.declared.Sort.{Sort}
use Rattle.log_parts.specs.declared.Tally.{Tally}
use Rattle.log_parts.specs.declared.Turn.{Turn}
use Rattle.log_parts.specs.declared.Turn.TheVariants as turn
use Rattle.log_passes.specs.Taking.{taken_in}
use Rattle.log_passes.specs.declared.taking.Taken.{Taken}
use Rattle.log_passes.specs.declared.taking.Taken.TheVariants as taken
use Rattle.log_passes.specs.declared.passing.Held.{Held}
use Rattle.log_passes.specs.declared.passing.Held.TheVariants.{Sought, Has}
use Rattle.log_passes.specs.declared.passing.Pass.{Pass}
use Rattle.log_passes.specs.declared.passing.Found.{Found}
use Rattle.log_passes.specs.declared.passing.Found.TheVariants as found
use Rattle.log_passes.specs.declared.passing.Need.{Need}
use Rattle.log_passes.specs.declared.passing.Need.TheVariants.{Goes, WantsFirst, WantsSecond, Over, Strange}
use Rattle.log_passes.specs.declared.passing.Step.{Step}

-- ---- one log: the next line of the sort

unfoldable pub sought_line : Sort → ℕ → Line → Found
sought_line s used l = pick (is_of s l) (found.Here l used) (found.Other used)

unfoldable pub sought_read : Sort → ℕ → Option Line → Found
sought_read s used (Some l) = sought_line s used l
sought_read s used None = found.Strange

unfoldable pub sought_in : Sort → List ℕ → Taken → Found
sought_in s bytes (taken.Text n used) = sought_read s used (line_in (take n bytes))
sought_in s bytes taken.Nothing = found.Nothing
sought_in s bytes taken.Wants = found.Wants
sought_in s bytes taken.Long = found.Strange

-- ---- both logs: which line goes first

unfoldable pub front_at : Option Line → Option ℕ
front_at None = None
front_at (Some l) = Some (number_of l)

unfoldable pub side_text : Option Line → List ℕ
side_text None = []
side_text (Some l) = text_of l

unfoldable pub turn_at : Option Line → Option Line → Turn
turn_at x y = turn_of (front_at x) (front_at y) (same_text (side_text x) (side_text y))

-- one more differs, and the first that does stays; no count passes 64 bits
unfoldable pub marked : Tally → Option Line → Option Line → Tally
marked t x y = record { count = next_long_count t.count; first = or_else t.first (differ x y) }

-- ---- a step

abbrev pub step_of : Pass → ℕ → ℕ → Need → Step
step_of p u v n = record { pass = p; first_used = u; second_used = v; need = n }

abbrev pub pass_of : Held → Held → Tally → Pass
pass_of x y t = record { first = x; second = y; tally = t }

unfoldable pub first_sought : Pass → Found → Step
first_sought p (found.Here l n) = step_of (pass_of (Has (Some l)) p.second p.tally) n 0 Goes
first_sought p (found.Other n) = step_of p n 0 Goes
first_sought p found.Nothing = step_of (pass_of (Has None) p.second p.tally) 0 0 Goes
first_sought p found.Wants = step_of p 0 0 WantsFirst
first_sought p found.Strange = step_of p 0 0 Strange

unfoldable pub second_sought : Pass → Found → Step
second_sought p (found.Here l n) = step_of (pass_of p.first (Has (Some l)) p.tally) 0 n Goes
second_sought p (found.Other n) = step_of p 0 n Goes
second_sought p found.Nothing = step_of (pass_of p.first (Has None) p.tally) 0 0 Goes
second_sought p found.Wants = step_of p 0 0 WantsSecond
second_sought p found.Strange = step_of p 0 0 Strange

-- the lines that are taken are sought anew
unfoldable pub turned_by : Tally → Option Line → Option Line → Turn → Step
turned_by t x y turn.Over = step_of (pass_of (Has x) (Has y) t) 0 0 Over
turned_by t x y turn.Alike = step_of (pass_of Sought Sought t) 0 0 Goes
turned_by t x y turn.First = step_of (pass_of Sought (Has y) (marked t x None)) 0 0 Goes
turned_by t x y turn.Second = step_of (pass_of (Has x) Sought (marked t None y)) 0 0 Goes
turned_by t x y turn.Both = step_of (pass_of Sought Sought (marked t x y)) 0 0 Goes

-- by what is held of each log: the first log's line is sought first
unfoldable pub stepped_by : Sort → Pass → Held → Held → List ℕ → Bool → List ℕ → Bool → Step
stepped_by s p Sought y first e second f = first_sought p (sought_in s first (taken_in first e))
stepped_by s p (Has x) Sought first e second f = second_sought p (sought_in s second (taken_in second f))
stepped_by s p (Has x) (Has y) first e second f = turned_by p.tally x y (turn_at x y)

unfoldable pub stepped : Sort → Pass → List ℕ → Bool → List ℕ → Bool → Step
stepped s p first e second f = stepped_by s p p.first p.second first e second f

abbrev pub unbegun : Pass
unbegun = pass_of Sought Sought unmarked
