-- What each of the two does with a line, and what stays true of it.
use Rattle.std.specs.Prelude.{Option, Some}
use Prim.Native.Nat.{ℕ, ◌≤◌}
use native.Mathlib.Omega.{arith}
use mathlib.Core.Path.{◌≡◌, refl, sym, subst, ◌∙◌}
use mathlib.Core.Bool.{Bool, true, false}
use mathlib.Core.List.{List}
use lib.ListN.{length}
use Rattle.pipes.specs.Window.{Within}
use Rattle.log_lines.specs.declared.Line.{Line}
use Rattle.log_sink.specs.Sink.{Wrote}
use Rattle.log_sink.specs.declared.Text.{Text}
use Rattle.log_hold.specs.Reading.{Held, After}
use Rattle.log_hold.specs.declared.Check.{Check}
use Rattle.log_hold.specs.declared.Verdict.TheVariants as verdict
use Rattle.log_hold.specs.declared.Stands.{Stands}
use Rattle.log_hold.specs.declared.Stands.TheVariants.{Right, Wrong, Wants, Over}
use Rattle.replay_stream.specs.declared.Answer.{Answer}
use Rattle.replay_stream.specs.declared.Answer.TheVariants as answer
use Rattle.replay_sink.specs.Sink.{Fits, Heard, HeardOf, Open, Closed, ClosedIf, Finished}
use Rattle.replay_sink.specs.declared.Sink.{Sink}
use Rattle.replay_sink.specs.declared.Sink.TheVariants.{Writes, Checks}

pub fits_writes : (s : Sink) (t : Text) (room : List ℕ) → s ≡ Writes t → Fits s room → (length room ≡ 65536) × (t.held ≤ length room)
fits_writes s t room e f = subst (λ (z : Sink). Fits z room) e f

pub fits_checks : (s : Sink) (c : Check) (room : List ℕ) → s ≡ Checks c → Fits s room → (length room ≡ 65536) × (Within c.log)
fits_checks s c room e f = subst (λ (z : Sink). Fits z room) e f

pub held_within : (c c' : Check) (d : Option Line) (room room' : List ℕ) → Held c d room c' room' → Within c'.log
held_within c c' d room room' h = by h.stands h.after
  where
    by : (s : Stands) → After s c d h.window room' c' → Within c'.log
    by (Right n) a = a.0
    by Wrong a = subst Within (sym a.0) h.sought.within
    by Wants a = absurd a
    by Over a = subst Within (sym a.0) h.sought.within

pub heard_writes : (s : Sink) (t t' : Text) (l : Line) (room room' : List ℕ) → s ≡ Writes t → Fits s room → length room' ≡ length room → Wrote t room l t' room' → (Heard s l room (Writes t') room') × (Fits (Writes t') room')
heard_writes s t t' l room room' e f size j =
    (subst (λ (z : Sink). Heard z l room (Writes t') room') (sym e) j, (size ∙ (fits_writes s t room e f).0, j.joined.inside))

pub heard_checks : (s : Sink) (c c' : Check) (l : Line) (room room' : List ℕ) → s ≡ Checks c → Fits s room → length room' ≡ length room → Held c (Some l) room c' room' → (Heard s l room (Checks c') room') × (Fits (Checks c') room')
heard_checks s c c' l room room' e f size h =
    (subst (λ (z : Sink). Heard z l room (Checks c') room') (sym e) h, (size ∙ (fits_checks s c room e f).0, held_within c c' (Some l) room room' h))

module _ (a : Answer) (s s' : Sink) (room room' : List ℕ) where
  pub took_line : (l : Line) → a ≡ answer.Says l → (Heard s l room s' room') × (Fits s' room') → (HeardOf a s room s' room') × (Fits s' room')
  took_line l e h = (subst (λ (z : Answer). HeardOf z s room s' room') (sym e) h.0, h.1)

module _ (a b : Answer) (s : Sink) (room : List ℕ) where
  pub took_none : a ≡ b → HeardOf b s room s room → Fits s room → (HeardOf a s room s room) × (Fits s room)
  took_none e h f = (subst (λ (z : Answer). HeardOf z s room s room) (sym e) h, f)

-- ---- when no line comes any more

pub open_writes : (s : Sink) (t : Text) → s ≡ Writes t → Open s
open_writes s t e = subst Open (sym e) (record {})

pub open_checks : (s : Sink) (c : Check) → s ≡ Checks c → c.verdict ≡ verdict.Going → Open s
open_checks s c e h = subst Open (sym e) h

pub closed_on : (o : Bool) (c c' : Check) (room room' : List ℕ) → o ≡ true → Closed c room c' room' → ClosedIf o c room c' room'
closed_on o c c' room room' e h = subst (λ (z : Bool). ClosedIf z c room c' room') (sym e) h

pub closed_off : (o : Bool) (c : Check) (room : List ℕ) → o ≡ false → ClosedIf o c room c room
closed_off o c room e = subst (λ (z : Bool). ClosedIf z c room c room) (sym e) (refl, refl)

pub finish_writes : (o : Bool) (s : Sink) (t t' : Text) (room : List ℕ) → s ≡ Writes t → Fits s room → t'.held ≤ 0 → t'.amiss ≡ t.amiss → (Finished o s room (Writes t') room) × (Fits (Writes t') room)
finish_writes o s t t' room e f none amiss =
    (subst (λ (z : Sink). Finished o z room (Writes t') room) (sym e) amiss, ((fits_writes s t room e f).0, omega (arith, none)))

pub finish_checks : (o : Bool) (s : Sink) (c c' : Check) (room room' : List ℕ) → s ≡ Checks c → Fits s room → length room' ≡ length room → (ClosedIf o c room c' room') × (Within c'.log) → (Finished o s room (Checks c') room') × (Fits (Checks c') room')
finish_checks o s c c' room room' e f size h =
    (subst (λ (z : Sink). Finished o z room (Checks c') room') (sym e) h.0, (size ∙ (fits_checks s c room e f).0, h.1))
