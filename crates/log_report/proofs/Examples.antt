-- What is told of short logs, computed from their texts: logs that part, that differ in their order alone, that are the same, and texts that are none.
use Prim.Native.Nat.{ℕ}
use Prim.Native.String.{String}
use mathlib.Core.Path.{◌≡◌, refl}
use mathlib.Core.List.{List}
use Rattle.answers.specs.Pick.{pick}
use Rattle.log_lines.specs.Text.{ascii, decimal, digits}
use Rattle.log_lines.specs.Lines.{text_of, word_text, verdict_text, trigger_text, in_range, word_in_range, verdict_in_range}
use Rattle.log_lines.specs.Steps.{seen_in, guessed}
use Rattle.log_text.specs.Text.{same_text, split_into, lines_of}
use Rattle.log_text.specs.Apart.{first_apart}
use Rattle.log_parts.specs.Sorts.{sort_of, is_of, of_sort, number_of, same_line}
use Rattle.log_parts.specs.Named.{line_in, rises, next_least, named_as, named_from, named}
use Rattle.log_parts.specs.Numbers.{line_at, differs_at, count, differing, least_of, least_differing, first_by_number}
use Rattle.log_parts.specs.Parts.{by_order, report_of, parting}
use Rattle.log_report.specs.Texts.{side_words, marked_text, differ_text, section_text, sections_text, alike, all_alike, place_text, order_text, counts_text, report_text, why_text, where_text, strange_text, parted_text}
use Rattle.log_text.specs.Shown.{shown_text}

-- what is told of two files, a.log and b.log, that hold these texts
abbrev pub told : String → String → List ℕ
told a b = parted_text (ascii "a.log") (ascii "b.log") (parting (lines_of (ascii a)) (lines_of (ascii b)))

pub record Examples : Type 0 where
  pub part :
      told "cycle 40 hold\nframe 812 weak\nbad totals\n" "frame 812 region 4800 4606056518893174784\nframe 900 flat\nbad totals"
      ≡ ascii "frame\n< frame 812 weak\n> frame 812 region 4800 4606056518893174784\ncycle\n< cycle 40 hold\n> nothing\ndiffering frames 2 cycles 1\n"
  pub end : told "end frames 0 cycles 0\n" "event 7 refused 4\nbad event 9\n" ≡ ascii "refusal\n< nothing\n> event 7 refused 4\nclosing\n< end frames 0 cycles 0\n> bad event 9\ndiffering frames 0 cycles 0\n"
  pub order : told "frame 0 weak\ncycle 0 hold\n" "cycle 0 hold\nframe 0 weak\n" ≡ ascii "order: line 1\ndiffering frames 0 cycles 0\n"
  pub same : told "frame 0 weak\n" "frame 0 weak" ≡ ascii "same\n"
  pub strange : told "frame 0 weak\nframe 01 weak\n" "" ≡ ascii "refused 8: a.log line 2: frame 01 weak\n"
  pub falls : told "" "frame 3 weak\ncycle 3 hold\nframe 3 weak\n" ≡ ascii "refused 8: b.log line 3: number does not rise: frame 3 weak\n"

pub examples : Examples
unfolding pick text_of word_text verdict_text trigger_text decimal digits in_range word_in_range verdict_in_range seen_in guessed same_text split_into lines_of first_apart sort_of is_of of_sort number_of same_line line_in rises next_least named_as named_from named line_at differs_at count differing least_of least_differing first_by_number by_order report_of parting side_words marked_text differ_text section_text sections_text alike all_alike place_text order_text counts_text report_text why_text shown_text where_text strange_text parted_text
examples = record { part = refl; end = refl; order = refl; same = refl; strange = refl; falls = refl }
