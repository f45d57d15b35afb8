-- What the steps inside the writer and the reader compute. No promise names these.
use Rattle.std.specs.Prelude.{◌≡◌, ℕ, ◌+◌, ◌-◌, ◌*◌, ◌%◌, ◌^◌, Bool, true, false, List, length, ◌==◌, nat_le, nat_lt}
use Prim.Native.String.{String}
use mathlib.Core.List.{foldl}
use Rattle.std.proofs.lemmas.List.Edits.{sets}
use Rattle.answers.specs.Pick.{pick, both}
use Rattle.log_lines.specs.Text.{ascii}
use Rattle.log_lines.specs.declared.Seen.{Seen}
use Rattle.log_lines.specs.declared.Line.{Line}
use Rattle.log_lines.specs.declared.Line.TheVariants.{Replay, Frame, Cycle, Refused, End, BadHeader, BadEvent, BadTotals}
use Rattle.log_lines.specs.declared.Word.TheVariants.{Uncovered, Ahead, Quiet, Flat, Banked, Weak, Ceiling, Crowded, Region}
use Rattle.log_lines.specs.declared.Verdict.TheVariants.{Hold, Move, Reacquire}
use Rattle.log_lines.specs.declared.Trigger.TheVariants.{Edge, Lost, Jump, Seam}

-- `after` holds the text from `at` up to `end`, and is otherwise as before.
pub record Put (before : List ℕ) (at : ℕ) (text after : List ℕ) (end : ℕ) : Type 0 where
  pub bytes : after ≡ sets before at text
  pub place : end ≡ at + length text

-- ---- a guess at the line that a text may be: the sum of the bytes that are not digits tells its form, and its numbers tell the rest

abbrev pub is_digit : ℕ → Bool
is_digit byte = both (nat_le 48 byte) (nat_lt byte 58)

-- Appends the digit d to v; gives 0 if that has more than 64 bits.
abbrev pub shifted : ℕ → ℕ → ℕ
shifted v d = pick (nat_lt (v * 10 + d) (2 ^ 64)) (v * 10 + d) 0

-- A digit continues the number that it is part of, or starts the next.
abbrev pub after_digit : Seen → ℕ → Seen
after_digit s d = pick s.inside
    (record { shape = s.shape; a = s.a; b = s.b; c = shifted s.c d; inside = true })
    (record { shape = s.shape; a = s.b; b = s.c; c = d; inside = true })

abbrev pub after_byte : Seen → ℕ → Seen
after_byte s byte = pick (is_digit byte)
    (after_digit s (byte - 48))
    (record { shape = (s.shape + byte) % 2 ^ 64; a = s.a; b = s.b; c = s.c; inside = false })

abbrev pub nothing : Seen
nothing = record { shape = 0; a = 0; b = 0; c = 0; inside = false }

unfoldable pub seen_in : List ℕ → Seen
seen_in text = foldl after_byte nothing text

abbrev pub low : ℕ → ℕ → ℕ
low wide n = n % 2 ^ wide

-- Tells whether the text has this shape: `words` is such a text without its numbers.
abbrev pub like : Seen → String → Bool
like s words = s.shape == foldl ◌+◌ 0 (ascii words)

unfoldable pub guessed : Seen → Line
guessed s =
    pick (like s "replay rate  ceiling ") (Replay (low 32 s.b) (low 32 s.c)) (
    pick (like s "frame  uncovered") (Frame s.c Uncovered) (
    pick (like s "frame  ahead") (Frame s.c Ahead) (
    pick (like s "frame  quiet") (Frame s.c Quiet) (
    pick (like s "frame  flat") (Frame s.c Flat) (
    pick (like s "frame  banked ") (Frame s.b (Banked (low 32 s.c))) (
    pick (like s "frame  weak") (Frame s.c Weak) (
    pick (like s "frame  ceiling") (Frame s.c Ceiling) (
    pick (like s "frame  crowded") (Frame s.c Crowded) (
    pick (like s "frame  region  ") (Frame s.a (Region s.b s.c)) (
    pick (like s "cycle  hold") (Cycle s.c Hold) (
    pick (like s "cycle  move ") (Cycle s.b (Move s.c)) (
    pick (like s "cycle  reacquire edge") (Cycle s.c (Reacquire Edge)) (
    pick (like s "cycle  reacquire lost") (Cycle s.c (Reacquire Lost)) (
    pick (like s "cycle  reacquire jump") (Cycle s.c (Reacquire Jump)) (
    pick (like s "cycle  reacquire seam") (Cycle s.c (Reacquire Seam)) (
    pick (like s "event  refused ") (Refused (low 32 s.b) (low 8 s.c)) (
    pick (like s "end frames  cycles ") (End s.b s.c) (
    pick (like s "bad header") BadHeader (
    pick (like s "bad event ") (BadEvent (low 32 s.c))
    BadTotals)))))))))))))))))))
