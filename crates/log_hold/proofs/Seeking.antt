-- Reading on until what stands next is known, and what then becomes of the log.
use Rattle.std.specs.Prelude.{Option}
use Prim.Native.Nat.{ℕ, ◌+◌, ◌-◌, ◌≤◌, min}
use native.Mathlib.Omega.{arith}
use mathlib.Core.Path.{◌≡◌, sym, ap, subst, ◌∙◌}
use mathlib.Core.Bool.{true≢false}
use mathlib.Core.List.{List, [], ◌++◌, append_assoc}
use lib.ListN.{length-append}
use Rattle.answers.specs.Numbers.{next_long_count}
use Rattle.pipes.specs.Window.{Within, at_hand, Grown}
use Rattle.pipes.specs.declared.window.Window.{Window}
use Rattle.pipes.proofs.Going.{used_hand}
use Rattle.log_lines.specs.declared.Line.{Line}
use Rattle.log_text.proofs.Text.{append_nothing}
use Rattle.log_hold.specs.Reading.{seen, Sought, Goes}
use Rattle.log_hold.specs.declared.Check.{Check}
use Rattle.log_hold.specs.declared.Stands.{Stands}
use Rattle.log_hold.specs.declared.Stands.TheVariants.{Right, Wrong, Wants, Over}
use Rattle.log_hold.specs.declared.Verdict.TheVariants as verdict

module _ (d : Option Line) (w : Window) (room : List ℕ) where
  pub sought_first : (s : Stands) → Within w → s ≡ seen d w room → Sought d w room w room s
  sought_first s i e = record { within = i; more = []; joins = sym (append_nothing (at_hand w room)); counts = omega arith; stands = e }

  pub sought_on : (w1 w2 : Window) (room1 room2 : List ℕ) (s1 s2 : Stands) → Sought d w room w1 room1 s1 → Grown w1 room1 w2 room2 → s2 ≡ seen d w2 room2 → Sought d w room w2 room2 s2
  sought_on w1 w2 room1 room2 s1 s2 s g e =
      record {
        within = g.within;
        more = s.more ++ g.more;
        joins = g.joins ∙ ap (λ (l : List ℕ). l ++ g.more) s.joins ∙ append_assoc (at_hand w room) s.more g.more;
        counts = omega (arith, length-append s.more g.more, s.counts, g.counts);
        stands = e;
      }

module _ (c c' : Check) (d : Option Line) (w : Window) where
  pub goes_right : {s : Stands} {n : ℕ} → s ≡ Right n → Within w → Within c'.log → c'.log.left ≤ w.left → c'.log.end ≡ w.end → c'.log.at ≡ w.at + min n (w.end - w.at) → c'.line ≡ next_long_count c.line → c'.verdict ≡ verdict.Going → Goes s c d w c'
  goes_right {s} {n} e i i' left end at line v = subst (λ (z : Stands). Goes z c d w c') (sym e) (λ h room. (i', used_hand w room n c'.log i end at, left, line, v))

  pub goes_wrong : {s : Stands} → s ≡ Wrong → c'.log ≡ w → c'.line ≡ c.line → c'.verdict ≡ verdict.Wrong d → Goes s c d w c'
  goes_wrong {s} e log line v = subst (λ (z : Stands). Goes z c d w c') (sym e) (λ h room. (log, line, v))

  pub goes_over : {s : Stands} → s ≡ Over → c'.log ≡ w → c'.line ≡ c.line → c'.verdict ≡ verdict.Accepted → Goes s c d w c'
  goes_over {s} e log line v = subst (λ (z : Stands). Goes z c d w c') (sym e) (λ h room. (log, line, v))

  pub goes_nowhere : {s : Stands} → s ≡ Wants → Goes s c d w c'
  goes_nowhere {s} e = subst (λ (z : Stands). Goes z c d w c') (sym e) (λ h room. absurd (true≢false h))
