-- No text is longer than the room that its writer asks for.
use Rattle.std.specs.Prelude.{Option, Some, None}
use Prim.Native.Nat.{ℕ, ◌+◌, ◌≤◌, ◌<◌}
use mathlib.Core.Path.{◌≡◌, refl, sym, ap, ◌∙◌}
use mathlib.Core.List.{List, [], ◌∷◌}
use native.Mathlib.Omega.{arith}
use lib.Dec.{leb}
use lib.ListN.{length, length-append}
use Rattle.std.specs.Option.{is_some}
use lib.Seq.{sets}
use mathlib.Core.Bool.{Bool, true, false, not}
use Rattle.answers.specs.Pick.{both, pick, pick_true, pick_false, pick_all}
use borrow.Author.Tests.{le-leb, lt-leb}
use Rattle.log_lines.specs.declared.Line.{Line}
use Rattle.log_lines.specs.Text.{ascii}
use Rattle.log_lines.specs.Steps.{Put}
use Rattle.log_lines.proofs.Answers.{line_short}
use Rattle.log_lines.proofs.Laws.{decimal_short}
use Rattle.log_parts.specs.Named.{line_in}
use Rattle.log_parts.specs.declared.Difference.{Difference}
use Rattle.log_parts.specs.declared.Report.{Report}
use Rattle.log_report.specs.Texts.{alike, side_words, marked_text, differ_text, section_text, sections_text, all_alike, place_text, order_text, why_by, why_text, where_text}

pub side_short : (s : Option Line) → length (side_words s) ≤ 75
unfolding side_words
side_short None = omega arith
side_short (Some l) = line_short l

pub marked_short : (mark : List ℕ) (s : Option Line) → length (marked_text mark s) ≤ length mark + 75
unfolding marked_text
marked_short mark s = omega (arith, length-append mark (side_words s), side_short s)

pub differ_short : (x y : Option Line) → length (differ_text x y) ≤ 157
unfolding differ_text
differ_short x y = simp length-append (omega (arith, marked_short (10 ∷ ascii "< ") x, marked_short (10 ∷ ascii "> ") y))

pub section_short : (heading : List ℕ) (f : Option Difference) → length (section_text heading f) ≤ length heading + 157
unfolding section_text
section_short heading None = omega arith
section_short heading (Some d) = omega (arith, length-append heading (differ_text d.first d.second), differ_short d.first d.second)

pub sections_short : (r : Report) → length (sections_text r) ≤ 815
unfolding sections_text
sections_short r = simp length-append (omega (arith, section_short (ascii "header") r.headers, section_short (ascii "frame") r.frames, section_short (ascii "cycle") r.cycles, section_short (ascii "refusal") r.refusals, section_short (ascii "closing") r.closings))

pub place_short : (n : ℕ) → length (place_text n) ≤ 33
unfolding place_text
place_short n = simp length-append (omega (arith, decimal_short n))

pub order_short : (r : Report) → length (order_text r) ≤ 33
unfolding order_text
order_short r = pick_all (λ (t : List ℕ). length t ≤ 33) (all_alike r) _ _ (place_short r.place) (omega arith)

why_by_lem : (r : Option Line) → length (why_by r) ≤ 22
why_by_lem (Some l) = omega arith
why_by_lem None = omega arith

pub why_short : (t : List ℕ) → length (why_text t) ≤ 22
unfolding why_text
why_short t = why_by_lem (line_in t)

pub where_short : (name : List ℕ) (place : ℕ) → length (where_text name place) ≤ length name + 39
unfolding where_text
where_short name place = simp length-append (omega (arith, decimal_short place))

pub alike_none : (f : Option Difference) (b : Bool) → is_some f ≡ not b → b ≡ alike f
unfolding alike
alike_none None true e = refl
alike_none None false e = e
alike_none (Some d) true e = e
alike_none (Some d) false e = refl

-- a test behind others
pub both_yes : {a b v x y : Bool} → v ≡ b → b ≡ y → a ≡ x → a ≡ true → v ≡ both x y
both_yes p q r t = p ∙ q ∙ sym (pick_true _ _ _ (sym r ∙ t))

pub both_no : {a v x : Bool} (y : Bool) → v ≡ a → a ≡ x → a ≡ false → v ≡ both x y
both_no y p r f = p ∙ f ∙ sym (pick_false _ _ _ (sym r ∙ f))

both_assoc : (a b c : Bool) → both (both a b) c ≡ both a (both b c)
unfolding pick
both_assoc true b c = refl
both_assoc false b c = refl

pub both_five : (a b c d e : Bool) → both (both (both (both a b) c) d) e ≡ both a (both b (both c (both d e)))
both_five a b c d e = simp both_assoc

-- nothing is put
pub put_nothing : (out : List ℕ) (at : ℕ) → Put out at [] out at
put_nothing out at = record { bytes = refl; place = omega arith }

-- ---- all of a text is put, or nothing

module _ (n : ℕ) (out text : List ℕ) where
  pub told_all : (after : List ℕ) (end : ℕ) → n ≤ length out → Put out 0 text after end
      → (Some end ≡ pick (leb n (length out)) (Some (length text)) None) × (after ≡ pick (leb n (length out)) (sets out 0 text) out)
  told_all after end h p =
      let yes = le-leb n (length out) h in
      (ap Some (p.place ∙ omega arith) ∙ sym (pick_true _ _ _ yes), p.bytes ∙ sym (pick_true _ _ _ yes))

  pub told_none : length out < n → (None ≡ pick (leb n (length out)) (Some (length text)) None) × (out ≡ pick (leb n (length out)) (sets out 0 text) out)
  told_none h =
      let no = lt-leb n (length out) h in
      (sym (pick_false _ _ _ no), sym (pick_false _ _ _ no))
