-- The two calls answer what the definitions say: which facts of their steps show it.
use Rattle.std.proofs.Common.{◌≡◌, ℕ, ◌+◌, ◌<◌, ◌≤◌, true, false, List, ◌++◌, length, take, drop, Some, None, sym, ap, ◌∙◌, true≢false, arith, length-append, le-leb}
use lib.Seq.{sets, sets-eq, take-append_seam}
use borrow.Author.Tests.{lt-leb}
use Rattle.answers.specs.Pick.{pick_true, pick_false}
use Rattle.log_lines.specs.Lines.{text_of, word_text, verdict_text, trigger_text, in_range}
use Rattle.log_lines.specs.Calls.{written, written_out, IsLine, Reads}
use Rattle.log_lines.specs.Steps.{Put, seen_in, guessed}
use Rattle.log_lines.specs.declared.Line.{Line}
use Rattle.log_lines.specs.declared.Line.TheVariants.{Replay, Frame, Cycle, Refused, End, BadHeader, BadEvent, BadTotals}
use Rattle.log_lines.specs.declared.Word.{Word}
use Rattle.log_lines.specs.declared.Word.TheVariants.{Uncovered, Ahead, Quiet, Flat, Banked, Weak, Ceiling, Crowded, Region}
use Rattle.log_lines.specs.declared.Verdict.{Verdict}
use Rattle.log_lines.specs.declared.Verdict.TheVariants.{Hold, Move, Reacquire}
use Rattle.log_lines.specs.declared.Trigger.{Trigger}
use Rattle.log_lines.specs.declared.Trigger.TheVariants.{Edge, Lost, Jump, Seam}
use Rattle.log_lines.proofs.Laws.{as_long, decimal_short}
use Rattle.log_lines.proofs.Guesses.{line_back}

-- ---- no line is longer than 75 bytes

word_short : (w : Word) → length (word_text w) ≤ 49
unfolding word_text
word_short Uncovered = omega arith
word_short Ahead = omega arith
word_short Quiet = omega arith
word_short Flat = omega arith
word_short (Banked p) = omega (arith, decimal_short p)
word_short Weak = omega arith
word_short Ceiling = omega arith
word_short Crowded = omega arith
word_short (Region d c) = simp length-append (omega (arith, decimal_short d, decimal_short c))

trigger_short : (t : Trigger) → length (trigger_text t) ≤ 49
unfolding trigger_text
trigger_short Edge = omega arith
trigger_short Lost = omega arith
trigger_short Jump = omega arith
trigger_short Seam = omega arith

verdict_short : (v : Verdict) → length (verdict_text v) ≤ 49
unfolding verdict_text
verdict_short Hold = omega arith
verdict_short (Move d) = omega (arith, decimal_short d)
verdict_short (Reacquire t) = trigger_short t

pub line_short : (l : Line) → length (text_of l) ≤ 75
unfolding text_of
line_short (Replay r c) = simp length-append (omega (arith, decimal_short r, decimal_short c))
line_short (Frame n w) = simp length-append (omega (arith, decimal_short n, word_short w))
line_short (Cycle n v) = simp length-append (omega (arith, decimal_short n, verdict_short v))
line_short (Refused e n) = simp length-append (omega (arith, decimal_short e, decimal_short n))
line_short (End f c) = simp length-append (omega (arith, decimal_short f, decimal_short c))
line_short BadHeader = omega arith
line_short (BadEvent e) = omega (arith, decimal_short e)
line_short BadTotals = omega arith

-- ---- writing

at_front : (text out : List ℕ) → length text ≤ length out → sets out 0 text ≡ text ++ drop (length text) out
at_front text out h =
    let z : 0 + length text ≡ length text = omega arith in
    rw z at (sets-eq text out 0 (omega arith))

-- what was put at the start of a buffer that it fits stands there
pub front : {out after text : List ℕ} {n : ℕ} → Put out 0 text after n → n ≤ length after → take n after ≡ text
front {out} {after} {text} {n} p h =
    let l : length text ≤ length out = omega (arith, p.place, as_long p) in
    let z : n ≡ length text = omega (arith, p.place) in
    rw (p.bytes, z, at_front text out l) (take-append_seam text _)

pub no_room : (line : Line) (out : List ℕ) (n : ℕ) → n ≡ 0 + length (text_of line) → length out < n → (None ≡ written line out) × (out ≡ written_out line out)
unfolding written written_out
no_room line out n e h =
    let no = lt-leb (length (text_of line)) (length out) (omega arith) in
    (sym (pick_false _ _ _ no), sym (pick_false _ _ _ no))

pub room : (line : Line) (out text after : List ℕ) (n k : ℕ) → n ≡ 0 + length (text_of line) → n ≤ length out → text ≡ text_of line → Put out 0 text after k
    → (Some n ≡ written line out) × (after ≡ written_out line out)
unfolding written written_out
room line out text after n k e h t p =
    let l : length (text_of line) ≤ length out = omega arith in
    let yes = le-leb (length (text_of line)) (length out) l in
    let z : n ≡ length (text_of line) = omega arith in
    (ap Some z ∙ sym (pick_true _ _ _ yes), rw t at p.bytes ∙ at_front (text_of line) out l ∙ sym (pick_true _ _ _ yes))

-- ---- reading

the_line : (text : List ℕ) (g l : Line) → g ≡ guessed (seen_in text) → IsLine text l → g ≡ l
the_line text g l p i = p ∙ ap (λ (t : List ℕ). guessed (seen_in t)) i.spelt ∙ line_back l i.ranged

pub reads : (text again : List ℕ) (g : Line) → g ≡ guessed (seen_in text) → in_range g ≡ true → again ≡ text_of g → again ≡ text → Reads text (Some g)
reads text again g p r t e = record {
  sound = λ l q. let same : g ≡ l = cc in record { spelt = sym e ∙ t ∙ ap text_of same; ranged = rw same at r };
  whole = λ l i. ap Some (the_line text g l p i);
}

pub outside : (text : List ℕ) (g : Line) → g ≡ guessed (seen_in text) → in_range g ≡ false → Reads text None
outside text g p r = record {
  sound = λ l q. absurd (cc);
  whole = λ l i. absurd (true≢false (sym i.ranged ∙ ap in_range (sym (the_line text g l p i)) ∙ r));
}

pub differs : (text again : List ℕ) (g : Line) → g ≡ guessed (seen_in text) → again ≡ text_of g → (again ≡ text → ⊥) → Reads text None
differs text again g p t n = record {
  sound = λ l q. absurd (cc);
  whole = λ l i. absurd (n (t ∙ ap text_of (the_line text g l p i) ∙ sym i.spelt));
}
