-- What is seen in a line's text, and that the line guessed from it is the line.
use Rattle.std.proofs.Common.{◌≡◌, ℕ, zero, suc, ◌+◌, ◌-◌, ◌*◌, ◌/◌, ◌%◌, ◌^◌, ◌<◌, ◌≤◌, true, false, ltb, List, [], ◌∷◌, ◌++◌, length, get_or, drop, refl, ap, ◌∙◌, div-lt_iff_lt-mul, add-one, arith, drop-cons, ltb-true, le-ltb, lt-ltb, le-leb}
use mathlib.Core.List.{foldl, foldl-append}
use native.Mathlib.Nat.{pow-succ'}
use native.Mathlib.Decide.{dec_lt}
use borrow.Author.Tests.{lt-leb}
use Rattle.answers.proofs.Passed.{both_true, within_most}
use Rattle.answers.specs.Pick.{pick, pick_true, pick_false}
use Rattle.answers.specs.Numbers.{limit, within, allowed_rate, allowed_ceiling}
use Rattle.log_lines.specs.Text.{digits, decimal}
use Rattle.log_lines.specs.Steps.{after_byte, after_digit, seen_in, is_digit, shifted, low, guessed}
use Rattle.log_lines.specs.Lines.{text_of, word_text, verdict_text, trigger_text, bits, in_range, word_in_range, verdict_in_range}
use Rattle.log_lines.specs.declared.Seen.{Seen}
use Rattle.log_lines.specs.declared.Line.{Line}
use Rattle.log_lines.specs.declared.Line.TheVariants.{Replay, Frame, Cycle, Refused, End, BadHeader, BadEvent, BadTotals}
use Rattle.log_lines.specs.declared.Word.{Word}
use Rattle.log_lines.specs.declared.Word.TheVariants.{Uncovered, Ahead, Quiet, Flat, Banked, Weak, Ceiling, Crowded, Region}
use Rattle.log_lines.specs.declared.Verdict.{Verdict}
use Rattle.log_lines.specs.declared.Verdict.TheVariants.{Hold, Move, Reacquire}
use Rattle.log_lines.specs.declared.Trigger.{Trigger}
use Rattle.log_lines.specs.declared.Trigger.TheVariants.{Edge, Lost, Jump, Seam}
use Rattle.log_lines.proofs.Laws.{digits_step}

pub see_next : (s s' : Seen) (i : ℕ) (text : List ℕ) → i < length text → s' ≡ after_byte s (get_or text i 0) → foldl after_byte s' (drop (i + 1) text) ≡ foldl after_byte s (drop i text)
see_next s s' i text h e = rw (drop-cons text i 0, add-one, e)

-- ---- digits

pub digit_yes : (x : ℕ) → 48 ≤ x → x < 58 → is_digit x ≡ true
digit_yes x l h = pick_true _ _ _ (le-leb 48 x l) ∙ lt-ltb x 58 h

pub digit_low : (x : ℕ) → x < 48 → is_digit x ≡ false
digit_low x h = pick_false _ _ _ (lt-leb 48 x h)

pub digit_high : (x : ℕ) → 58 ≤ x → is_digit x ≡ false
digit_high x h = pick_true _ _ _ (le-leb 48 x (omega arith)) ∙ le-ltb x 58 h

digit_step : (s : Seen) (d : ℕ) → d < 10 → after_byte s (48 + d) ≡ after_digit s d
digit_step s d h =
    let e : (48 + d) - 48 ≡ d = omega arith in
    rw (pick_true _ _ _ (digit_yes (48 + d) (omega arith) (omega arith)), e)

shifted_back : (n : ℕ) → n < 2 ^ 64 → shifted (n / 10) (n % 10) ≡ n
shifted_back n m = rw (pick_true _ _ _ (lt-ltb (n / 10 * 10 + n % 10) (2 ^ 64) (omega arith))) (omega arith)

-- what is seen before a number, and after it
abbrev before : ℕ → ℕ → ℕ → ℕ → Seen
before h a b c = record { shape = h; a = a; b = b; c = c; inside = false }

abbrev after : ℕ → ℕ → ℕ → ℕ → Seen
after h a b c = record { shape = h; a = a; b = b; c = c; inside = true }

see_last : (n : ℕ) → n < 2 ^ 64 → (h a b c : ℕ) (t : List ℕ) → foldl after_byte (before h a b c) t ≡ after h b c (n / 10) → Dec (n < 10) →
    foldl after_byte (before h a b c) (pick (ltb n 10) ((48 + n) ∷ []) (t ++ (48 + n % 10) ∷ [])) ≡ after h b c n
unfolding pick
see_last n m h a b c t e (yes l) = rw (lt-ltb n 10 l, digit_step (before h a b c) n l)
see_last n m h a b c t e (no k) =
    rw (le-ltb n 10 (omega (arith, k)), foldl-append, e)
    (digit_step (after h b c (n / 10)) (n % 10) (omega arith) ∙ ap (after h b c) (shifted_back n m))

see_digits : (f n : ℕ) → n < 10 ^ suc f → n < 2 ^ 64 → (h a b c : ℕ) → foldl after_byte (before h a b c) (digits (suc f) n) ≡ after h b c n
unfolding pick
see_digits zero n l m h a b c = rw (digits_step 0 n, lt-ltb n 10 l, digit_step (before h a b c) n l)
see_digits (suc f) n l m h a b c =
    rw (digits_step (suc f) n)
    (see_last n m h a b c (digits (suc f) (n / 10))
    (see_digits f (n / 10) ((div-lt_iff_lt-mul (omega arith)).1 (omega (arith, pow-succ' 10 (suc f)))) (omega arith) h a b c) (dec_lt n 10))

-- a number's digits are read as the number
see_decimal : (n : ℕ) → n < 2 ^ 64 → (h a b c : ℕ) → foldl after_byte (before h a b c) (decimal n) ≡ after h b c n
unfolding decimal
see_decimal n m h a b c = see_digits 19 n (omega arith) m h a b c

see_32 : (n : ℕ) → n < 2 ^ 32 → (h a b c : ℕ) → foldl after_byte (before h a b c) (decimal n) ≡ after h b c n
see_32 n m h a b c = see_decimal n (omega arith) h a b c

low_32 : (n : ℕ) → n < 2 ^ 32 → low 32 n ≡ n
low_32 n h = omega arith

low_8 : (n : ℕ) → n < 2 ^ 8 → low 8 n ≡ n
low_8 n h = omega arith

-- ---- the line guessed from a line's text is the line

word_back : (n : ℕ) (w : Word) → n < 2 ^ 64 → word_in_range w ≡ true → guessed (seen_in (text_of (Frame n w))) ≡ Frame n w
unfolding seen_in guessed pick text_of word_text word_in_range
word_back n Uncovered h e = simp (foldl-append, see_decimal n h)
word_back n Ahead h e = simp (foldl-append, see_decimal n h)
word_back n Quiet h e = simp (foldl-append, see_decimal n h)
word_back n Flat h e = simp (foldl-append, see_decimal n h)
word_back n (Banked p) h e = let f = ltb-true p (2 ^ 32) e in simp (foldl-append, see_decimal n h, see_32 p f, low_32 p f)
word_back n Weak h e = simp (foldl-append, see_decimal n h)
word_back n Ceiling h e = simp (foldl-append, see_decimal n h)
word_back n Crowded h e = simp (foldl-append, see_decimal n h)
word_back n (Region d c) h e =
    let f = both_true (ltb d limit) (bits 64 c) e in
    let l = ltb-true d limit f.0 in
    simp (foldl-append, see_decimal n h, see_decimal d (omega arith), see_decimal c (ltb-true c (2 ^ 64) f.1))

trigger_back : (n : ℕ) (t : Trigger) → n < 2 ^ 64 → guessed (seen_in (text_of (Cycle n (Reacquire t)))) ≡ Cycle n (Reacquire t)
unfolding seen_in guessed pick text_of verdict_text trigger_text
trigger_back n Edge h = simp (foldl-append, see_decimal n h)
trigger_back n Lost h = simp (foldl-append, see_decimal n h)
trigger_back n Jump h = simp (foldl-append, see_decimal n h)
trigger_back n Seam h = simp (foldl-append, see_decimal n h)

verdict_back : (n : ℕ) (v : Verdict) → n < 2 ^ 64 → verdict_in_range v ≡ true → guessed (seen_in (text_of (Cycle n v))) ≡ Cycle n v
unfolding seen_in guessed pick text_of verdict_text verdict_in_range
verdict_back n Hold h e = simp (foldl-append, see_decimal n h)
verdict_back n (Move d) h e = let l = ltb-true d limit e in simp (foldl-append, see_decimal n h, see_decimal d (omega arith))
verdict_back n (Reacquire t) h e = trigger_back n t h

pub line_back : (l : Line) → in_range l ≡ true → guessed (seen_in (text_of l)) ≡ l
unfolding seen_in guessed pick text_of in_range
line_back (Replay r c) e =
    let f = both_true (allowed_rate r) (allowed_ceiling c) e in
    let x : r < 2 ^ 32 = omega (arith, within_most 8000 192000 r f.0) in
    let y : c < 2 ^ 32 = omega (arith, within_most 1 4000 c f.1) in
    simp (foldl-append, see_32 r x, see_32 c y, low_32 r x, low_32 c y)
line_back (Frame n w) e = let f = both_true (bits 64 n) (word_in_range w) e in word_back n w (ltb-true n (2 ^ 64) f.0) f.1
line_back (Cycle n v) e = let f = both_true (bits 64 n) (verdict_in_range v) e in verdict_back n v (ltb-true n (2 ^ 64) f.0) f.1
line_back (Refused i r) e =
    let f = both_true (bits 32 i) (within 1 7 r) e in
    let x = ltb-true i (2 ^ 32) f.0 in
    let y : r < 2 ^ 8 = omega (arith, within_most 1 7 r f.1) in
    simp (foldl-append, see_32 i x, see_32 r (omega arith), low_32 i x, low_8 r y)
line_back (End n m) e =
    let f = both_true (bits 64 n) (bits 64 m) e in
    simp (foldl-append, see_decimal n (ltb-true n (2 ^ 64) f.0), see_decimal m (ltb-true m (2 ^ 64) f.1))
line_back BadHeader e = refl
line_back (BadEvent i) e = let x = ltb-true i (2 ^ 32) e in simp (foldl-append, see_32 i x, low_32 i x)
line_back BadTotals e = refl
