-- Request b: where two logs part.
use Rattle.std.specs.Prelude.{ℕ, ◌≡◌, ◌↔◌, List, [], ◌∷◌, Option, Some, None}
use Rattle.answers.specs.Pick.{pick}
use Rattle.answers.specs.Refusals.{none, not_a_log_line}
use Rattle.log_lines.specs.declared.Line.{Line}
use Rattle.log_text.specs.Apart as places
use Rattle.log_parts.specs.Sorts.{of_sort, same_line, differ}
use Rattle.log_parts.specs.declared.Difference.{Difference}
use Rattle.log_parts.specs.declared.Sort.{Sort}
use Rattle.log_parts.specs.declared.Sort.TheVariants.{Headers, Frames, Cycles, Refusals, Closings}
use Rattle.log_parts.specs.Named.{Named, Lines, NotALog, named}
use Rattle.log_parts.specs.Numbers.{differing, first_by_number}
use Rattle.log_parts.specs.Merge.{merge}
use Rattle.log_parts.specs.declared.Report.{Report}

-- lines without numbers of their own: the n-th with the n-th
unfoldable pub by_order : List Line → List Line → Option Difference
by_order [] [] = None
by_order [] (y ∷ b) = differ None (Some y)
by_order (x ∷ a) [] = differ (Some x) None
by_order (x ∷ a) (y ∷ b) = pick (same_line x y) (by_order a b) (differ (Some x) (Some y))

-- which log, the place and the text of a line that is none; or that the logs are the same; or where they part
pub data Parted : Type 0 where
  NotALogLine : ℕ → ℕ → List ℕ → Parted
  Same : Parted
  Parts : Report → Parted

abbrev pub in_order : Sort → List Line → List Line → Option Difference
in_order s a b = by_order (of_sort s a) (of_sort s b)

abbrev pub by_number : Sort → List Line → List Line → Option Difference
by_number s a b = first_by_number (of_sort s a) (of_sort s b)

abbrev pub how_many : Sort → List Line → List Line → ℕ
how_many s a b = differing (of_sort s a) (of_sort s b)

-- "the first differing line of each sort .. then the number of differing frames and cycles"; and the first place where the logs differ, for logs that differ in their order alone
unfoldable pub report_of : List Line → List Line → ℕ → Report
report_of a b place =
    record {
      headers = in_order Headers a b;
      frames = by_number Frames a b;
      cycles = by_number Cycles a b;
      refusals = in_order Refusals a b;
      closings = in_order Closings a b;
      differing_frames = how_many Frames a b;
      differing_cycles = how_many Cycles a b;
      place = place;
    }

-- "Equal logs give the single line `same`."
abbrev pub compared : List Line → List Line → places.Apart → Parted
compared a b places.Same = Same
compared a b (places.At k x y) = Parts (report_of a b k)

-- the first log is judged to its end, then the second
abbrev pub judged : Named → Named → places.Apart → Parted
judged (NotALog k t) n r = NotALogLine 1 k t
judged (Lines a) (NotALog k t) r = NotALogLine 2 k t
judged (Lines a) (Lines b) r = compared a b r

-- of two logs, each the list of its lines
unfoldable pub parting : List (List ℕ) → List (List ℕ) → Parted
parting s t = judged (named s) (named t) (places.first_apart 1 s t)

-- "Refusals: 8, not a log line."
abbrev pub refusal_of : Parted → ℕ
refusal_of (NotALogLine log place text) = not_a_log_line
refusal_of Same = none
refusal_of (Parts r) = none

-- ---- with the sides exchanged

abbrev pub turned_first : Option Difference → Option Difference
turned_first None = None
turned_first (Some d) = differ d.second d.first

abbrev pub turned_report : Report → Report
turned_report r =
    record {
      headers = turned_first r.headers;
      frames = turned_first r.frames;
      cycles = turned_first r.cycles;
      refusals = turned_first r.refusals;
      closings = turned_first r.closings;
      differing_frames = r.differing_frames;
      differing_cycles = r.differing_cycles;
      place = r.place;
    }

abbrev pub turned : Parted → Parted
turned (NotALogLine log place text) = NotALogLine log place text
turned Same = Same
turned (Parts r) = Parts (turned_report r)

-- ---- statements

-- none of the sort is counted, and none is named, exactly if the logs have the same lines of it
pub record AlikeCounts (a b : List Line) (r : Report) : Type 0 where
  pub frames_counted : (r.differing_frames ≡ 0) ↔ (of_sort Frames a ≡ of_sort Frames b)
  pub frames_named : (r.frames ≡ None) ↔ (of_sort Frames a ≡ of_sort Frames b)
  pub cycles_counted : (r.differing_cycles ≡ 0) ↔ (of_sort Cycles a ≡ of_sort Cycles b)
  pub cycles_named : (r.cycles ≡ None) ↔ (of_sort Cycles a ≡ of_sort Cycles b)
  pub headers_named : (r.headers ≡ None) ↔ (of_sort Headers a ≡ of_sort Headers b)
  pub refusals_named : (r.refusals ≡ None) ↔ (of_sort Refusals a ≡ of_sort Refusals b)
  pub closings_named : (r.closings ≡ None) ↔ (of_sort Closings a ≡ of_sort Closings b)

-- one pass of a sort over both logs gives its count and its first
pub record Merged (a b : List Line) (r : Report) : Type 0 where
  pub of_frames : merge (of_sort Frames a) (of_sort Frames b) ≡ record { count = r.differing_frames; first = r.frames }
  pub of_cycles : merge (of_sort Cycles a) (of_sort Cycles b) ≡ record { count = r.differing_cycles; first = r.cycles }
