-- Two short logs, computed: a frame that differs, one that only the first has, one that only the second has; and texts that are none.
use Rattle.std.specs.Prelude.{Some, None}
use mathlib.Core.Path.{◌≡◌, refl}
use mathlib.Core.List.{List, [], ◌∷◌}
use Rattle.answers.specs.Pick.{pick}
use Rattle.log_lines.specs.Text.{ascii, decimal, digits}
use Rattle.log_lines.specs.Lines.{text_of, word_text, verdict_text, in_range, word_in_range, verdict_in_range}
use Rattle.log_lines.specs.Steps.{seen_in, guessed}
use Rattle.log_lines.specs.declared.Line.{Line}
use Rattle.log_lines.specs.declared.Line.TheVariants.{Frame, End, BadHeader, BadEvent, BadTotals}
use Rattle.log_lines.specs.declared.Word.TheVariants.{Quiet, Weak, Flat}
use Rattle.log_text.specs.Text.{same_text}
use Rattle.log_parts.specs.Sorts.{sort_of, is_of, of_sort, number_of, same_line, differ}
use Rattle.log_parts.specs.declared.Sort.TheVariants.{Closings}
use Rattle.log_parts.specs.Named.{line_in, NotALog, rises, next_least, named_as, named_from, named}
use Rattle.log_parts.specs.Numbers.{line_at, differs_at, count, differing, least_of, least_differing, first_by_number}
use Rattle.log_parts.specs.Merge.{merge_in, merge}

abbrev here : List Line
here = Frame 0 Quiet ∷ Frame 2 Weak ∷ Frame 5 Quiet ∷ []

abbrev there : List Line
there = Frame 0 Quiet ∷ Frame 3 Quiet ∷ Frame 5 Flat ∷ []

-- 2 and 3 stand in one log only, 5 in both and not alike; 2 is the first
pub three_differ : differing here there ≡ 3
unfolding differing count differs_at line_at number_of same_line same_text text_of word_text decimal digits pick
three_differ = refl

pub two_is_first : first_by_number here there ≡ differ (Some (Frame 2 Weak)) None
unfolding first_by_number least_differing least_of differs_at line_at number_of same_line same_text text_of word_text decimal digits pick
two_is_first = refl

pub in_one_pass : merge here there ≡ record { count = 3; first = differ (Some (Frame 2 Weak)) None }
unfolding merge merge_in number_of same_line same_text text_of word_text decimal digits pick
in_one_pass = refl

-- a number that is repeated, and a zero in front of one
pub repeated : named (ascii "frame 3 weak" ∷ ascii "cycle 3 hold" ∷ ascii "frame 3 weak" ∷ []) ≡ NotALog 3 (ascii "frame 3 weak")
unfolding named named_from named_as line_in seen_in guessed rises next_least is_of sort_of number_of in_range word_in_range verdict_in_range same_text text_of word_text verdict_text decimal digits pick
repeated = refl

pub zero_in_front : named (ascii "frame 03 weak" ∷ []) ≡ NotALog 1 (ascii "frame 03 weak")
unfolding named named_from named_as line_in seen_in guessed in_range word_in_range same_text text_of word_text decimal digits pick
zero_in_front = refl

-- "end or `bad`" is one sort
pub one_sort : of_sort Closings (End 0 4 ∷ BadHeader ∷ Frame 1 Weak ∷ BadEvent 7 ∷ BadTotals ∷ []) ≡ End 0 4 ∷ BadHeader ∷ BadEvent 7 ∷ BadTotals ∷ []
unfolding of_sort is_of sort_of pick
one_sort = refl
