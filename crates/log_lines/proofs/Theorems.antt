-- The promises of log lines.
use Rattle.std.proofs.Common.{◌≡◌, ℕ, zero, suc, ◌+◌, ◌/◌, ◌%◌, ◌≤◌, Bool, true, ltb, leb, List, [], ◌∷◌, ◌++◌, length, get_or, take, Option, Some, sym, refl, ap, ◌∙◌, arith, le-leb, leb-true}
use lib.Seq.{take-append_seam}
use Rattle.answers.proofs.Passed.{both_true}
use Rattle.answers.specs.Pick.{pick, both, pick_true, pick_all}
use Rattle.log_lines.specs.Text.{ascii, digits, decimal}
use Rattle.log_lines.specs.Lines.{text_of, word_text, verdict_text, trigger_text, in_range}
use Rattle.log_lines.specs.Calls.{written_out, fits_into, Reads}
use Rattle.log_lines.specs.declared.Line.{Line}
use Rattle.log_lines.specs.declared.Line.TheVariants.{Replay, Frame, Cycle, Refused, End, BadHeader, BadEvent, BadTotals}
use Rattle.log_lines.specs.declared.Word.{Word}
use Rattle.log_lines.specs.declared.Word.TheVariants.{Uncovered, Ahead, Quiet, Flat, Banked, Weak, Ceiling, Crowded, Region}
use Rattle.log_lines.specs.declared.Verdict.{Verdict}
use Rattle.log_lines.specs.declared.Verdict.TheVariants.{Hold, Move, Reacquire}
use Rattle.log_lines.specs.declared.Trigger.{Trigger}
use Rattle.log_lines.specs.declared.Trigger.TheVariants.{Edge, Lost, Jump, Seam}
use Rattle.log_lines.specs.Steps.{seen_in, guessed}
use Rattle.log_lines.proofs.Guesses.{line_back}

-- ---- reading what was written gives the line back

pub read_back : (line : Line) (out : List ℕ) (answer : Option Line) → in_range line ≡ true → fits_into line out ≡ true →
    Reads (take (length (text_of line)) (written_out line out)) answer → answer ≡ Some line
unfolding written_out
read_back line out answer r f h =
    h.whole line (record { spelt = rw (pick_true _ _ _ f) (take-append_seam (text_of line) _); ranged = r })

-- ---- two lines with one text are equal

pub one_line : (l m : Line) → in_range l ≡ true → in_range m ≡ true → text_of l ≡ text_of m → l ≡ m
one_line l m f g e = sym (line_back l f) ∙ ap (λ (t : List ℕ). guessed (seen_in t)) e ∙ line_back m g

-- ---- no line's text holds a newline: each byte is 32 or more

abbrev plain : List ℕ → Bool
plain [] = true
plain (x ∷ rest) = both (leb 32 x) (plain rest)

plain_append : (a b : List ℕ) → plain a ≡ true → plain b ≡ true → plain (a ++ b) ≡ true
plain_append [] b p q = q
plain_append (x ∷ a) b p q =
    let f = both_true (leb 32 x) (plain a) p in
    pick_true _ _ _ f.0 ∙ plain_append a b f.1 q

plain_one : (x : ℕ) → 32 ≤ x → plain (x ∷ []) ≡ true
plain_one x h = pick_true _ _ _ (le-leb 32 x h)

plain_digits : (f n : ℕ) → plain (digits f n) ≡ true
unfolding digits
plain_digits zero n = refl
plain_digits (suc f) n =
    pick_all (λ (t : List ℕ). plain t ≡ true) (ltb n 10) ((48 + n) ∷ []) (digits f (n / 10) ++ (48 + n % 10) ∷ [])
    (plain_one (48 + n) (omega arith))
    (plain_append (digits f (n / 10)) ((48 + n % 10) ∷ []) (plain_digits f (n / 10)) (plain_one (48 + n % 10) (omega arith)))

plain_decimal : (n : ℕ) → plain (decimal n) ≡ true
unfolding decimal
plain_decimal n = plain_digits 20 n

-- a text, and a number after it
plain_number : (t : List ℕ) (n : ℕ) → plain t ≡ true → plain (t ++ decimal n) ≡ true
plain_number t n p = plain_append t (decimal n) p (plain_decimal n)

plain_word : (w : Word) → plain (word_text w) ≡ true
unfolding word_text pick
plain_word Uncovered = refl
plain_word Ahead = refl
plain_word Quiet = refl
plain_word Flat = refl
plain_word (Banked p) = plain_number (ascii " banked ") p refl
plain_word Weak = refl
plain_word Ceiling = refl
plain_word Crowded = refl
plain_word (Region d c) = plain_number (ascii " region " ++ decimal d ++ ascii " ") c (plain_append (ascii " region " ++ decimal d) (ascii " ") (plain_number (ascii " region ") d refl) refl)

plain_trigger : (t : Trigger) → plain (trigger_text t) ≡ true
unfolding trigger_text pick
plain_trigger Edge = refl
plain_trigger Lost = refl
plain_trigger Jump = refl
plain_trigger Seam = refl

plain_verdict : (v : Verdict) → plain (verdict_text v) ≡ true
unfolding verdict_text pick
plain_verdict Hold = refl
plain_verdict (Move d) = plain_number (ascii " move ") d refl
plain_verdict (Reacquire t) = plain_trigger t

-- words and a number, twice
plain_numbers : (t u : List ℕ) (m n : ℕ) → plain t ≡ true → plain u ≡ true → plain (t ++ decimal m ++ u ++ decimal n) ≡ true
plain_numbers t u m n p q = plain_number (t ++ decimal m ++ u) n (plain_append (t ++ decimal m) u (plain_number t m p) q)

plain_line : (l : Line) → plain (text_of l) ≡ true
unfolding text_of pick
plain_line (Replay r c) = plain_numbers (ascii "replay rate ") (ascii " ceiling ") r c refl refl
plain_line (Frame n w) = plain_append (ascii "frame " ++ decimal n) (word_text w) (plain_number (ascii "frame ") n refl) (plain_word w)
plain_line (Cycle n v) = plain_append (ascii "cycle " ++ decimal n) (verdict_text v) (plain_number (ascii "cycle ") n refl) (plain_verdict v)
plain_line (Refused e n) = plain_numbers (ascii "event ") (ascii " refused ") e n refl refl
plain_line (End f c) = plain_numbers (ascii "end frames ") (ascii " cycles ") f c refl refl
plain_line BadHeader = refl
plain_line (BadEvent e) = plain_number (ascii "bad event ") e refl
plain_line BadTotals = refl

plain_at : (t : List ℕ) (i : ℕ) → plain t ≡ true → get_or t i 0 ≡ 10 → ⊥
plain_at [] i p e = omega arith
plain_at (x ∷ t) zero p e = omega (arith, leb-true 32 x (both_true (leb 32 x) (plain t) p).0)
plain_at (x ∷ t) (suc i) p e = plain_at t i (both_true (leb 32 x) (plain t) p).1 e

pub no_newline : (l : Line) (i : ℕ) → get_or (text_of l) i 0 ≡ 10 → ⊥
no_newline l i e = plain_at (text_of l) i (plain_line l) e

-- ---- the whole log of SPECIFICATION 12, line by line

pub document : (text_of (Replay 48000 500) ≡ ascii "replay rate 48000 ceiling 500")
    × (text_of (Cycle 0 Hold) ≡ ascii "cycle 0 hold")
    × (text_of (Cycle 2 (Move 4096)) ≡ ascii "cycle 2 move 4096")
    × (text_of (Cycle 7 (Reacquire Lost)) ≡ ascii "cycle 7 reacquire lost")
    × (text_of (Frame 3 Weak) ≡ ascii "frame 3 weak")
    × (text_of (End 0 4) ≡ ascii "end frames 0 cycles 4")
unfolding text_of word_text verdict_text trigger_text decimal digits pick
document = (refl, refl, refl, refl, refl, refl)
