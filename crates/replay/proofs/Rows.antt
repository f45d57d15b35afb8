-- The whole log of SPECIFICATION 12, and the smallest bad ones, by computation.
use Prim.Native.Nat.{ℕ}
use mathlib.Core.Path.{◌≡◌, refl, ap, ◌∙◌}
use mathlib.Core.List.{List, [], ◌∷◌, ◌++◌}
use Rattle.answers.specs.Pick.{pick}
use Rattle.tracker.specs.Tracker.{bands_of, same_bands, state_refusal, fresh}
use Rattle.tracker.specs.Cycle.{unconfident_cycle, edge_cycle, jumped, outside_bands, confirmed, landing, contradicts, escalated, outside_cycle, interior_cycle, judged, cycle_refusal, cycled}
use Rattle.log_lines.specs.Text.{ascii, digits, decimal}
use Rattle.log_lines.specs.Lines.{text_of, verdict_text}
use Rattle.log_lines.specs.declared.Line.TheVariants.{Replay, Cycle, End, BadHeader, BadEvent, BadTotals}
use Rattle.log_lines.specs.declared.Verdict.TheVariants.{Hold, Move}
use Rattle.recording.specs.Bytes.{bytes, number_at}
use Rattle.recording.specs.Recording.{shape_at, opened, event_of, event_at}
use Rattle.recording.specs.Samples.{samples_in, samples_of, admitted, all_used}
use Rattle.replay.specs.Words.{cycle_line, cycles_after, trigger_of}
use Rattle.replay.specs.Events.{event_played, cycle_played, stepped}
use Rattle.replay.specs.Log.{new_session, closing, lines_from, log_of, log_text}

-- a header with these rate, ceiling, event count and totals
abbrev pub header : ℕ → ℕ → ℕ → ℕ → ℕ → List ℕ
header rate ceiling count far near = bytes 4 rate ++ bytes 4 ceiling ++ bytes 4 count ++ bytes 4 24 ++ bytes 4 far ++ bytes 4 near

abbrev pub event : ℕ → ℕ → ℕ → List ℕ
event kind count number = bytes 4 kind ++ bytes 4 count ++ bytes 8 number

-- rate 48,000, ceiling 500, alignment 4,800; interior 4,700, 4,500, 4,480, then unconfident
abbrev pub whole : List ℕ
whole = header 48000 500 4 0 0 ++ event 6 4800 4700 ++ event 6 4800 4500 ++ event 6 4800 4480 ++ event 5 0 0

pub whole_log : log_of whole [] [] ≡ Replay 48000 500 ∷ Cycle 0 Hold ∷ Cycle 1 Hold ∷ Cycle 2 (Move 4096) ∷ Cycle 3 Hold ∷ End 0 4 ∷ []
unfolding pick bands_of same_bands state_refusal fresh unconfident_cycle edge_cycle jumped outside_bands confirmed landing contradicts escalated outside_cycle interior_cycle judged cycle_refusal cycled number_at shape_at opened event_of event_at samples_in samples_of admitted all_used cycle_line cycles_after trigger_of event_played cycle_played stepped new_session closing lines_from log_of
whole_log = refl

-- its six lines as they stand there, each with its newline
pub whole_text : log_text (log_of whole [] [])
    ≡ ascii "replay rate 48000 ceiling 500" ++ 10
    ∷ ascii "cycle 0 hold" ++ 10
    ∷ ascii "cycle 1 hold" ++ 10
    ∷ ascii "cycle 2 move 4096" ++ 10
    ∷ ascii "cycle 3 hold" ++ 10
    ∷ ascii "end frames 0 cycles 4" ++ 10
    ∷ []
unfolding log_text text_of verdict_text decimal digits pick
whole_text = ap log_text whole_log ∙ refl

-- no byte at all
pub no_header : log_of [] [] [] ≡ BadHeader ∷ []
unfolding pick opened log_of
no_header = refl

-- one event, of an unknown kind
pub unknown_kind : log_of (header 48000 500 1 0 0 ++ event 9 0 0) [] [] ≡ Replay 48000 500 ∷ BadEvent 0 ∷ []
unfolding pick number_at shape_at opened event_of event_at stepped lines_from log_of
unknown_kind = refl

-- no event, and a far sample announced
pub unused_sample : log_of (header 48000 500 0 1 0) [] [] ≡ Replay 48000 500 ∷ BadTotals ∷ []
unfolding pick number_at shape_at opened all_used new_session closing lines_from log_of
unused_sample = refl
