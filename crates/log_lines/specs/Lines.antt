-- SPECIFICATION 12: the lines of a log, each without the newline that ends it.
use Rattle.std.specs.Prelude.{ℕ, ◌^◌, Bool, true, List, ◌++◌, nat_lt}
use Rattle.answers.specs.Pick.{both}
use Rattle.answers.specs.Numbers.{limit, within, allowed_rate, allowed_ceiling}
use Rattle.answers.specs.Refusals.{outside_table, no_full_frame}
use Rattle.log_lines.specs.Text.{ascii, decimal}
use Rattle.log_lines.specs.declared.Line.{Line}
use Rattle.log_lines.specs.declared.Line.TheVariants.{Replay, Frame, Cycle, Refused, End, BadHeader, BadEvent, BadTotals}
use Rattle.log_lines.specs.declared.Word.{Word}
use Rattle.log_lines.specs.declared.Word.TheVariants.{Uncovered, Ahead, Quiet, Flat, Banked, Weak, Ceiling, Crowded, Region}
use Rattle.log_lines.specs.declared.Verdict.{Verdict}
use Rattle.log_lines.specs.declared.Verdict.TheVariants.{Hold, Move, Reacquire}
use Rattle.log_lines.specs.declared.Trigger.{Trigger}
use Rattle.log_lines.specs.declared.Trigger.TheVariants.{Edge, Lost, Jump, Seam}

-- ---- the text of a line

unfoldable pub word_text : Word → List ℕ
word_text Uncovered = ascii " uncovered"
word_text Ahead = ascii " ahead"
word_text Quiet = ascii " quiet"
word_text Flat = ascii " flat"
word_text (Banked peak) = ascii " banked " ++ decimal peak
word_text Weak = ascii " weak"
word_text Ceiling = ascii " ceiling"
word_text Crowded = ascii " crowded"
word_text (Region delay correlation) = ascii " region " ++ decimal delay ++ ascii " " ++ decimal correlation

unfoldable pub trigger_text : Trigger → List ℕ
trigger_text Edge = ascii " reacquire edge"
trigger_text Lost = ascii " reacquire lost"
trigger_text Jump = ascii " reacquire jump"
trigger_text Seam = ascii " reacquire seam"

unfoldable pub verdict_text : Verdict → List ℕ
verdict_text Hold = ascii " hold"
verdict_text (Move delay) = ascii " move " ++ decimal delay
verdict_text (Reacquire trigger) = trigger_text trigger

unfoldable pub text_of : Line → List ℕ
text_of (Replay rate ceiling) = ascii "replay rate " ++ decimal rate ++ ascii " ceiling " ++ decimal ceiling
text_of (Frame frame word) = ascii "frame " ++ decimal frame ++ word_text word
text_of (Cycle cycle verdict) = ascii "cycle " ++ decimal cycle ++ verdict_text verdict
text_of (Refused event number) = ascii "event " ++ decimal event ++ ascii " refused " ++ decimal number
text_of (End frames cycles) = ascii "end frames " ++ decimal frames ++ ascii " cycles " ++ decimal cycles
text_of BadHeader = ascii "bad header"
text_of (BadEvent event) = ascii "bad event " ++ decimal event
text_of BadTotals = ascii "bad totals"

-- ---- the range of its numbers: rate, ceiling, delays and refusals as SPECIFICATION 2 and 3 allow, any other as wide as it is kept

-- Tells whether a number has at most this many bits.
abbrev pub bits : ℕ → ℕ → Bool
bits wide n = nat_lt n (2 ^ wide)

unfoldable pub word_in_range : Word → Bool
word_in_range Uncovered = true
word_in_range Ahead = true
word_in_range Quiet = true
word_in_range Flat = true
word_in_range (Banked peak) = bits 32 peak
word_in_range Weak = true
word_in_range Ceiling = true
word_in_range Crowded = true
word_in_range (Region delay correlation) = both (nat_lt delay limit) (bits 64 correlation)

unfoldable pub verdict_in_range : Verdict → Bool
verdict_in_range Hold = true
verdict_in_range (Move delay) = nat_lt delay limit
verdict_in_range (Reacquire trigger) = true

unfoldable pub in_range : Line → Bool
in_range (Replay rate ceiling) = both (allowed_rate rate) (allowed_ceiling ceiling)
in_range (Frame frame word) = both (bits 64 frame) (word_in_range word)
in_range (Cycle cycle verdict) = both (bits 64 cycle) (verdict_in_range verdict)
in_range (Refused event number) = both (bits 32 event) (within outside_table no_full_frame number)
in_range (End frames cycles) = both (bits 64 frames) (bits 64 cycles)
in_range BadHeader = true
in_range (BadEvent event) = bits 32 event
in_range BadTotals = true
