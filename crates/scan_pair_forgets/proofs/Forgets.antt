-- Independence and demand 3 of the pair's code: the calls in turn are a list of crate scan_pair, so that `apart` and `pair_forgets` speak of it.
use Prim.Native.Nat.{ℕ}
use mathlib.Core.Path.{◌≡◌, refl, sym, ap, ap₂, ◌∙◌, subst}
use mathlib.Core.List.{List, [], ◌∷◌}
use native.Mathlib.Omega.{arith}
use lib.ListN.{length}
use Rattle.scan.specs.Bins.{full_slack}
use Rattle.scan.specs.Steps.{Response, refusal_of}
use Rattle.scan_pair.specs.State.{Side, PairWorld}
use Rattle.scan_pair.specs.Steps.{PairCall, PairStep, pair_called, pair_making}
use Rattle.scan_pair.specs.Streams.{share, with_answer, answers_to, pair_after, PairBegan, by_making, by_reset, PairFair, PairLate, rearm_of, pair_resumed, PairStream}
use Rattle.scan_pair.proofs.Apart.{apart}
use Rattle.scan_pair.proofs.Forgets.{pair_forgets}
use Rattle.scan_pair_forgets.specs.Happened.{PairAnswered, one_pair, pair_by_rules, PairHappened, PairBegun, made, afresh}
use Rattle.scan_pair_forgets.specs.Statement.{items_in, answers_of, CodeApart, PairCodeForgets}
use Rattle.scan_pair_forgets.proofs.Made.{new_steps}
use Rattle.scan_pair_forgets.proofs.Runs.{after_calls}
use Rattle.scan_pair_forgets.proofs.Followed.{Followed, followed, in_turn}

-- ---- the calls as the rules answer them, and the list of them

after_is : (calls : List PairCall) (w : PairWorld) → pair_after full_slack w (items_in (pair_by_rules w calls)) ≡ after_calls w calls
unfolding pair_after items_in pair_by_rules after_calls
after_is [] w = refl
after_is (c ∷ calls) w = after_is calls (pair_called full_slack w c).world

answers_are : (d : Side) (calls : List PairCall) (w : PairWorld) → answers_of d (pair_by_rules w calls) ≡ answers_to d full_slack w (items_in (pair_by_rules w calls))
unfolding answers_of answers_to items_in pair_by_rules
answers_are d [] w = refl
answers_are d (c ∷ calls) w = ap (with_answer (share d c) (pair_called full_slack w c).response) (answers_are d calls (pair_called full_slack w c).world)

module _ {w w' : PairWorld} {t : List PairAnswered} (f : Followed w t w') where
  ends_at : pair_after full_slack w (items_in t) ≡ w'
  ends_at = ap (λ (z : List PairAnswered). pair_after full_slack w (items_in z)) f.answered ∙ after_is f.calls w ∙ f.ends

  answered_so : (d : Side) → answers_of d t ≡ answers_to d full_slack w (items_in t)
  answered_so d = subst (λ (z : List PairAnswered). answers_of d z ≡ answers_to d full_slack w (items_in z)) (sym f.answered) (answers_are d f.calls w)

-- ---- the beginning, and the rearm

-- a single call, from what its calls are by the rules
abbrev first : PairAnswered → List PairAnswered → PairAnswered
first a [] = a
first a (b ∷ rest) = b

call_is : (w w' : PairWorld) (c : PairCall) (r : Response) (calls : List PairCall) → one_pair w c r ≡ pair_by_rules w calls → after_calls w calls ≡ w' → ((pair_called full_slack w c).response ≡ r) × ((pair_called full_slack w c).world ≡ w')
unfolding pair_by_rules after_calls
call_is w w' c r [] t e = let z : ◌≡◌ {A = ℕ} 1 0 = ap length t in absurd (omega arith)
call_is w w' c r (d ∷ []) t e =
    let a = ap (first (record { handed = w; call = c; response = r })) t in
    let same : c ≡ d = ap (λ (z : PairAnswered). z.call) a in
    (ap (λ (z : PairCall). (pair_called full_slack w z).response) same ∙ sym (ap (λ (z : PairAnswered). z.response) a), ap (λ (z : PairCall). (pair_called full_slack w z).world) same ∙ e)
call_is w w' c r (d ∷ d' ∷ calls) t e = let z = ap length t in absurd (omega arith)

happened : {w w' : PairWorld} {c : PairCall} {r : Response} → PairHappened w (one_pair w c r) w' → ((pair_called full_slack w c).response ≡ r) × ((pair_called full_slack w c).world ≡ w')
happened {w} {w'} {c} {r} h = let f = followed h in call_is w w' c r f.calls f.answered f.ends

began : (rate ceiling : ℕ) (w : PairWorld) → PairBegun rate ceiling w → PairBegan full_slack rate ceiling w
began rate ceiling w (made f b p q e l m a) =
    let s = new_steps f b e l m ∙ ap₂ {A = ℕ} {B = ℕ} (λ (x y : ℕ). pair_making full_slack x y b) (sym p) (sym q) in
    subst (PairBegan full_slack rate ceiling) (ap (λ (z : PairStep). z.world) (sym s)) (by_making b (ap (λ (z : PairStep). refusal_of z.response) (sym s) ∙ a))
began rate ceiling w (afresh v _ r p q h a) =
    let s = happened h in
    subst (PairBegan full_slack rate ceiling) s.1 (by_reset v p q (ap refusal_of s.0 ∙ a))

-- ---- the theorems

pub code_apart : CodeApart
code_apart rate ceiling d w w' t b h f = answered_so (in_turn h) d ∙ apart full_slack rate ceiling d w (items_in t) (began rate ceiling w b) f

pub code_forgets : PairCodeForgets
code_forgets d rate ceiling block w e v u earlier later r =
    let at = ends_at (in_turn r.before) in
    let s = happened r.rearm in
    let resumes : pair_resumed d full_slack w (items_in earlier) ≡ v = ap (λ (z : PairWorld). (pair_called full_slack z (rearm_of d)).world) at ∙ s.1 in
    let stream : PairStream d full_slack rate ceiling block w (items_in earlier) (items_in later) =
    record {
      began = began rate ceiling w r.begun;
      fair = r.fair;
      rearms = ap (λ (z : PairWorld). refusal_of (pair_called full_slack z (rearm_of d)).response) at ∙ ap refusal_of s.0 ∙ r.rearms;
      fair_since = subst (λ (z : PairWorld). PairFair full_slack z (items_in later)) (sym resumes) r.fair_since;
      late = subst (λ (z : PairWorld). PairLate d full_slack block z (items_in later)) (sym resumes) r.late;
    } in
    answered_so (in_turn r.since) d ∙ ap (λ (z : PairWorld). answers_to d full_slack z (items_in later)) (sym resumes) ∙ pair_forgets d full_slack rate ceiling block w (items_in earlier) (items_in later) stream
