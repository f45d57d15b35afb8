-- The judge's steps, one after the other, are `named_from`.
use Rattle.std.specs.Prelude.{Option, Some, None}
use Prim.Native.Nat.{ℕ, ◌+◌, ◌<◌}
use mathlib.Core.Path.{◌≡◌, refl, sym, ap, ◌∙◌}
use mathlib.Core.Bool.{Bool, true, false}
use mathlib.Core.List.{List, ◌∷◌}
use native.Mathlib.Omega.{arith}
use lib.Dec.{leb, ltb}
use lib.ListN.{length}
use native.Mathlib.Numerals.{add-one}
use borrow.Author.Tests.{le-leb}
use Rattle.std.specs.Bool.{then_some}
use Rattle.answers.specs.Pick.{pick, both}
use Rattle.log_lines.specs.Calls.{Reads}
use Rattle.log_lines.specs.declared.Line.{Line}
use Rattle.log_lines.specs.declared.Line.TheVariants.{Replay, Frame, Cycle, Refused, End, BadHeader, BadEvent, BadTotals}
use Rattle.log_lines.proofs.Answers.{line_short}
use Rattle.log_text.specs.Cut.{longest}
use Rattle.log_parts.specs.Sorts.{sort_of, is_of, number_of}
use Rattle.log_parts.specs.Named.{line_in, Named, NotALog, in_front, rises, next_least, named_as, named_from}
use Rattle.log_parts.specs.declared.Judged.{Judged}
use Rattle.log_parts.specs.Judged.{good, least_after, judged_line, judged_read, judged_text, goes_as}
use Rattle.log_parts.proofs.Named.{line_read}

pub above_none : (n : ℕ) → true ≡ leb 0 n
above_none n = sym (le-leb 0 n (omega arith))

pub above_last : (m n : ℕ) → ltb m n ≡ leb (m + 1) n
above_last m n = rw add-one

pub then_picked : (b : Bool) (j : Judged) → then_some b j ≡ pick b (Some j) None
unfolding pick
then_picked true j = refl
then_picked false j = refl

-- what the reader's contract admits is what reading answers
pub read_is : (t : List ℕ) (r : Option Line) → Reads t r → line_in t ≡ r
read_is t (Some l) h = (line_read t).whole l (h.sound l refl)
read_is t None h = none (line_in t) refl
  where
    none : (s : Option Line) → line_in t ≡ s → line_in t ≡ None
    none (Some l) e = e ∙ sym (h.whole l ((line_read t).sound l e))
    none None e = e

-- one text: named as it is judged
module _ (place : ℕ) (t : List ℕ) (f c : Option ℕ) (behind : ℕ → ℕ → Named) where
  step_line : (l : Line) → named_as place (least_after f) (least_after c) t (Some l) behind ≡ goes_as place t (judged_line f c l) behind
  unfolding named_as goes_as judged_line rises next_least is_of sort_of number_of pick least_after
  step_line (Replay r d) = refl
  step_line (Frame n w) = each (leb (least_after f) n)
    where
      each : (b : Bool) → pick (both b true) (in_front (Frame n w) (behind (n + 1) (least_after c))) (NotALog place t) ≡ goes_as place t (pick b (good (Frame n w) (Some n) c) None) behind
      each true = refl
      each false = refl
  step_line (Cycle n v) = each (leb (least_after c) n)
    where
      each : (b : Bool) → pick b (in_front (Cycle n v) (behind (least_after f) (n + 1))) (NotALog place t) ≡ goes_as place t (pick b (good (Cycle n v) f (Some n)) None) behind
      each true = refl
      each false = refl
  step_line (Refused e n) = refl
  step_line (End m n) = refl
  step_line BadHeader = refl
  step_line (BadEvent e) = refl
  step_line BadTotals = refl

  step_read : (r : Option Line) → named_as place (least_after f) (least_after c) t r behind ≡ goes_as place t (judged_read f c r) behind
  unfolding named_as goes_as
  step_read (Some l) = step_line l
  step_read None = refl

-- "are named and the tool stops there": a log is judged text by text, from last numbers that are kept
pub judge_names : (place : ℕ) (f c : Option ℕ) (t : List ℕ) (ts : List (List ℕ)) →
    named_from place (least_after f) (least_after c) (t ∷ ts) ≡ goes_as place t (judged_text f c t) (λ m n. named_from (place + 1) m n ts)
unfolding named_from judged_text
judge_names place f c t ts = step_read place t f c (λ m n. named_from (place + 1) m n ts) (line_in t)

-- a text of more than 75 bytes is no log line: what `cut` tells to be too long need not be read on
pub too_long : (t : List ℕ) → longest < length t → line_in t ≡ None
too_long t h = none (line_in t) refl
  where
    none : (s : Option Line) → line_in t ≡ s → line_in t ≡ None
    none (Some l) e = let i = (line_read t).sound l e in absurd (omega (arith, h, line_short l, ap length i.spelt))
    none None e = e
