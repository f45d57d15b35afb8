-- What a host holds, with the bytes behind it that were not read yet: those that later reads bring, and those that are never read.
use Rattle.std.specs.Prelude.{ℕ, ◌≡◌, true, List, [], ◌++◌}
use Rattle.pipes.specs.Window.{at_hand, over}
use Rattle.log_text.specs.Apart.{Apart, Same}
use Rattle.log_hold.specs.declared.Verdict.{Verdict}
use Rattle.log_hold.specs.declared.Verdict.TheVariants as verdict
use Rattle.log_says.specs.Calls.{due_side}
use Rattle.log_check.specs.Checking.{wrong_at}
use Rattle.replay_stream.specs.Hosts.{Rest, rest}
use Rattle.replay_inputs.specs.declared.Inputs.{Inputs}
use Rattle.replay_sink.specs.declared.Sink.{Sink}
use Rattle.replay_sink.specs.declared.Sink.TheVariants.{Writes, Checks}

abbrev pub rest_at : Inputs → List ℕ → List ℕ → List ℕ → Rest → Rest
rest_at i e f n l = rest (at_hand i.events e ++ l.events) (at_hand i.far f ++ l.far) (at_hand i.near n ++ l.near)

-- behind an input that has ended there are none
pub record Fairly (i : Inputs) (l : Rest) : Type 0 where
  pub events : over i.events ≡ true → l.events ≡ []
  pub far : over i.far ≡ true → l.far ≡ []
  pub near : over i.near ≡ true → l.near ≡ []

-- ---- the same of a log that is checked

abbrev pub IsCheck : Sink → Type 0
IsCheck (Writes t) = ⊥
IsCheck (Checks c) = Unit {0}

abbrev pub log_at : Sink → List ℕ → List ℕ → List ℕ
log_at (Writes t) room later = later
log_at (Checks c) room later = at_hand c.log room ++ later

abbrev pub line_at : Sink → ℕ
line_at (Writes t) = 0
line_at (Checks c) = c.line

abbrev pub FairLog : Sink → List ℕ → Type 0
FairLog (Writes t) later = Unit {0}
FairLog (Checks c) later = over c.log ≡ true → later ≡ []

-- what was found of the log, by the number of the line at which it stands, and its bytes from there on
abbrev pub Found : Verdict → ℕ → List ℕ → Apart → Type 0
Found verdict.Going line log v = ⊥
Found verdict.Accepted line log v = v ≡ Same
Found (verdict.Wrong d) line log v = v ≡ wrong_at line log (due_side d)
