-- Refused with 12 exactly where the form is another, or where the log would hold a line that begins with `bad`.
use mathlib.Core.Path.{◌≡◌, refl, sym, ap, ◌∙◌}
use mathlib.Core.Bool.{Bool, true, false, not, true≢false, false≢true}
use Rattle.answers.specs.Pick.{both}
use Rattle.recording.specs.Recording.{opened}
use Rattle.recording_convert.specs.Whole.{Recording, whole_recording}
use Rattle.recording_convert.specs.Converting.{form_from, OtherForm, form_is, converted}
use Rattle.recording_convert.specs.declared.Direction.{Direction}
use Rattle.recording_convert.proofs.Refusing.{other_if, other_only}
use Rattle.replay.specs.Log.{log_of}
use Rattle.replay_convert.specs.Bad.{has_bad}
use Rattle.replay_convert.proofs.Structure.{bad_by_structure}

twice : (t u : Bool) → u ≡ not t → t ≡ not u
twice true true e = absurd (true≢false e)
twice true false e = refl
twice false true e = refl
twice false false e = absurd (false≢true e)

-- its log has no line that begins with `bad`, and it is of the form that the direction takes
abbrev pub Takes : Direction → Recording → Bool
Takes d r = both (not (has_bad (log_of r.events r.far r.near))) (form_is (form_from d) (opened r.events))

takes_is : (d : Direction) (r : Recording) → Takes d r ≡ both (whole_recording r) (form_is (form_from d) (opened r.events))
takes_is d r = ap (λ (t : Bool). both t (form_is (form_from d) (opened r.events))) (sym (twice (whole_recording r) _ (bad_by_structure r)))

pub refuses_exactly : (d : Direction) (r : Recording) → (converted d r ≡ OtherForm → Takes d r ≡ false) × (Takes d r ≡ false → converted d r ≡ OtherForm)
refuses_exactly d r = (λ q. takes_is d r ∙ other_only d r q, λ f. other_if d r (sym (takes_is d r) ∙ f))
