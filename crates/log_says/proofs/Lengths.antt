-- No text is longer than the room that its writer asks for.
use Rattle.std.specs.Prelude.{Some, None}
use Prim.Native.Nat.{ℕ, ◌≤◌, ◌<◌}
use mathlib.Core.Path.{◌≡◌, refl, sym, ap, ◌∙◌}
use mathlib.Core.List.{List, [], ◌++◌}
use native.Mathlib.Omega.{arith}
use lib.Dec.{leb}
use lib.ListN.{length, take, length-append}
use lib.Seq.{sets, length-take-le}
use borrow.Author.Tests.{le-leb, lt-leb, leb-true, leb-false}
use Rattle.answers.specs.Pick.{pick, pick_true, pick_false, pick_case}
use Rattle.log_lines.specs.Text.{ascii}
use Rattle.log_lines.specs.Steps.{Put}
use Rattle.log_lines.proofs.Laws.{decimal_short}
use Rattle.log_text.specs.Apart.{Side, Nothing, There}
use Rattle.log_text.specs.Cut.{longest}
use Rattle.log_text.specs.Shown.{ended, shown_text}
use Rattle.log_says.specs.Says.{place_text, stands_text}

pub place_short : (k : ℕ) → length (place_text k) ≤ 35
unfolding place_text
place_short k = simp length-append (omega (arith, decimal_short k))

shown_short : (t : List ℕ) → length (shown_text t) ≤ 79
unfolding shown_text
shown_short t =
    pick_case (λ (s : List ℕ). length s ≤ 79) (leb (length t) longest) _ _
    (λ e. omega (arith, length-append t ended, leb-true (length t) longest e))
    (λ e. omega (arith, length-append (take longest t) (ascii " .." ++ ended), length-take-le longest t (omega (arith, leb-false (length t) longest e))))

pub stands_short : (s : Side) → length (stands_text s) ≤ 87
unfolding stands_text
stands_short Nothing = omega arith
stands_short (There t) = omega (arith, length-append (ascii "stands: ") (shown_text t), shown_short t)

-- nothing is put
pub put_nothing : (out : List ℕ) (at : ℕ) → Put out at [] out at
put_nothing out at = record { bytes = refl; place = omega arith }

-- ---- all of a text is put, or nothing

module _ (n : ℕ) (out text : List ℕ) where
  pub told_all : (after : List ℕ) (end : ℕ) → n ≤ length out → Put out 0 text after end
      → (Some end ≡ pick (leb n (length out)) (Some (length text)) None) × (after ≡ pick (leb n (length out)) (sets out 0 text) out)
  told_all after end h p =
      let yes = le-leb n (length out) h in
      (ap Some (p.place ∙ omega arith) ∙ sym (pick_true _ _ _ yes), p.bytes ∙ sym (pick_true _ _ _ yes))

  pub told_none : length out < n → (None ≡ pick (leb n (length out)) (Some (length text)) None) × (out ≡ pick (leb n (length out)) (sets out 0 text) out)
  told_none h =
      let no = lt-leb n (length out) h in
      (sym (pick_false _ _ _ no), sym (pick_false _ _ _ no))
