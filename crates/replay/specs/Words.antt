-- SPECIFICATION 12: how the answers of scan and tracker read in a log.
use Rattle.std.specs.Prelude.{ℕ, List, [], ◌∷◌}
use Rattle.std.specs.Float.{binary32, binary64}
use Rattle.std.specs.Float.Ieee.{to_bits}
use Rattle.answers.specs.Numbers.{next_long_count}
use Rattle.answers.specs.declared.Change.{Change}
use Rattle.answers.specs.declared.Change.TheVariants as change
use Rattle.scan.specs.declared.Frame.{Frame}
use Rattle.scan.specs.declared.Frame.TheVariants as frame
use Rattle.tracker.specs.declared.Trigger.{Trigger}
use Rattle.tracker.specs.declared.Trigger.TheVariants as trigger
use Rattle.tracker.specs.declared.Verdict.{Verdict}
use Rattle.tracker.specs.declared.Verdict.TheVariants as verdict
use Rattle.log_lines.specs.declared.Line.{Line}
use Rattle.log_lines.specs.declared.Line.TheVariants as line
use Rattle.log_lines.specs.declared.Word.{Word}
use Rattle.log_lines.specs.declared.Word.TheVariants as word
use Rattle.log_lines.specs.declared.Trigger as logged
use Rattle.log_lines.specs.declared.Trigger.TheVariants as loggedTrigger
use Rattle.log_lines.specs.declared.Verdict.TheVariants as loggedVerdict

-- frame words; floats are bit patterns
unfoldable pub word_of : Frame → Word
word_of frame.Uncovered = word.Uncovered
word_of frame.Ahead = word.Ahead
word_of frame.Quiet = word.Quiet
word_of frame.Flat = word.Flat
word_of (frame.Banked peak) = word.Banked (to_bits binary32 peak)
word_of frame.Weak = word.Weak
word_of frame.Ceiling = word.Ceiling
word_of frame.Crowded = word.Crowded
word_of (frame.Region r) = word.Region r.delay.0 (to_bits binary64 r.correlation)

-- what the word of a frame line tells: the place of the word in the list of frame words, and the numbers behind it. It is what the frame tells: `word_tells`.
abbrev pub word_told : Word → List ℕ
word_told word.Uncovered = 1 ∷ []
word_told word.Ahead = 2 ∷ []
word_told word.Quiet = 3 ∷ []
word_told word.Flat = 4 ∷ []
word_told (word.Banked peak) = 5 ∷ peak ∷ []
word_told word.Weak = 6 ∷ []
word_told word.Ceiling = 7 ∷ []
word_told word.Crowded = 8 ∷ []
word_told (word.Region delay correlation) = 9 ∷ delay ∷ correlation ∷ []

unfoldable pub trigger_of : Trigger → logged.Trigger
trigger_of trigger.Edge = loggedTrigger.Edge
trigger_of trigger.Lost = loggedTrigger.Lost
trigger_of trigger.Jump = loggedTrigger.Jump
trigger_of trigger.Seam = loggedTrigger.Seam

-- the line of cycle number `cycle`, in event number `event`
unfoldable pub cycle_line : ℕ → ℕ → Verdict → Line
cycle_line event cycle (verdict.Refused number) = line.Refused event number
cycle_line event cycle verdict.Hold = line.Cycle cycle loggedVerdict.Hold
cycle_line event cycle (verdict.Move alignment) = line.Cycle cycle (loggedVerdict.Move alignment.0)
cycle_line event cycle (verdict.Reacquire trigger) = line.Cycle cycle (loggedVerdict.Reacquire (trigger_of trigger))

-- a refused cycle takes no number
unfoldable pub cycles_after : ℕ → Verdict → ℕ
cycles_after cycle (verdict.Refused number) = cycle
cycles_after cycle verdict.Hold = next_long_count cycle
cycles_after cycle (verdict.Move alignment) = next_long_count cycle
cycles_after cycle (verdict.Reacquire trigger) = next_long_count cycle

-- accepted events of kinds 1 to 4 and 8 log nothing, but for frames that fill
unfoldable pub change_lines : ℕ → Change → List Line
change_lines event (change.Refused number) = line.Refused event number ∷ []
change_lines event change.Done = []
