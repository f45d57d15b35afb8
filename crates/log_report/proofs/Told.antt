-- Request b: what a host tells is the text of `parting`, though of a line that is none it holds no more than 76 bytes.
use Prim.Native.Nat.{ℕ, ◌^◌, ◌<◌}
use mathlib.Core.Path.{◌≡◌, refl, sym, ap, ◌∙◌}
use mathlib.Core.Bool.{Bool, true, false}
use mathlib.Core.List.{List, ◌++◌}
use native.Mathlib.Omega.{arith}
use lib.Dec.{leb}
use lib.ListN.{length, take}
use lib.Seq.{length-take-le, take_all, take-take}
use borrow.Author.Tests.{leb-true, leb-false, lt-leb}
use Rattle.answers.specs.Pick.{pick_false}
use Rattle.log_text.specs.Text.{lines_of}
use Rattle.log_text.specs.Cut.{longest}
use Rattle.log_parts.specs.Named.{line_in}
use Rattle.log_parts.specs.Parts.{Parted, NotALogLine, Same, Parts, parting}
use Rattle.log_parts.proofs.Judging.{too_long}
use Rattle.log_passes.specs.Hosts.{Hosted, shortened}
use Rattle.log_passes.proofs.Hosts.{parted_is}
use Rattle.log_text.specs.Shown.{ended, shown_text}
use Rattle.log_report.specs.Texts.{why_text, strange_text, parted_text}

-- of a line of more than 76 bytes the same is told as of its first 76
long_told : (name : List ℕ) (place : ℕ) (t : List ℕ) → 76 < length t → strange_text name place (take 76 t) ≡ strange_text name place t
unfolding strange_text why_text shown_text
long_told name place t h =
    let size : length (take 76 t) ≡ 76 = length-take-le 76 t (omega (arith, h)) in
    let start : line_in (take 76 t) ≡ line_in t = too_long (take 76 t) (omega (arith, size)) ∙ sym (too_long t (omega (arith, h))) in
    let short : leb (length (take 76 t)) longest ≡ false = lt-leb (length (take 76 t)) longest (omega (arith, size)) in
    let long : leb (length t) longest ≡ false = lt-leb (length t) longest (omega (arith, h)) in
    rw (start, pick_false _ (take 76 t ++ ended) _ short, pick_false _ (t ++ ended) _ long, take-take longest 76 t (omega arith))

told_short : (name : List ℕ) (place : ℕ) (t : List ℕ) → strange_text name place (take 76 t) ≡ strange_text name place t
told_short name place t = each (leb (length t) 76) refl
  where
    each : (b : Bool) → leb (length t) 76 ≡ b → strange_text name place (take 76 t) ≡ strange_text name place t
    each true e = ap (strange_text name place) (take_all 76 t (leb-true (length t) 76 e))
    each false e = long_told name place t (leb-false (length t) 76 e)

shortened_told : (m n : List ℕ) (p : Parted) → parted_text m n (shortened p) ≡ parted_text m n p
unfolding parted_text
shortened_told m n (NotALogLine log k t) = told_short _ k t
shortened_told m n Same = refl
shortened_told m n (Parts r) = refl

-- whatever a host holds at each step, what it tells is the text of `parting` of the two logs
pub told_is : (m n a b : List ℕ) (p : Parted) → length (lines_of a) < 2 ^ 63 → length (lines_of b) < 2 ^ 63 → Hosted a b p → parted_text m n p ≡ parted_text m n (parting (lines_of a) (lines_of b))
told_is m n a b p na nb w = ap (parted_text m n) (parted_is a b p na nb w) ∙ shortened_told m n (parting (lines_of a) (lines_of b))
