-- Far pushes: two one after the other are one, and silence may stand in the place of samples whose blocks are not kept.
use Prim.Native.Nat.{ℕ, ◌+◌, ◌/◌, ◌≤◌, ◌<◌}
use mathlib.Core.Path.{◌≡◌, refl, sym, ap, ◌∙◌}
use mathlib.Core.List.{List, ◌∷◌, ◌++◌}
use mathlib.Core.Bool.{true}
use native.Mathlib.Omega.{arith}
use lib.Dec.{leb, eqb}
use lib.ListN.{length, length-append}
use lib.Ieee.{Float}
use lib.Ieee.Scale.{finite}
use borrow.Author.Tests.{eq-eqb, le-leb}
use Rattle.answers.specs.Pick.{pick}
use Rattle.answers.specs.Refusals.{none}
use Rattle.answers.specs.Numbers.{limit}
use Rattle.answers.proofs.Refusals.{passed_both}
use Rattle.folds.specs.Sums.{zeros, all_finite}
use Rattle.scan.specs.Bins.{envelope_len}
use Rattle.scan.specs.State.{World, due, first_refusals}
use Rattle.scan.specs.Blocks.{Heard, hear_all}
use Rattle.scan.specs.Calls.{FarPush, heard_by, with_far, far_refusal, pushed_far}
use Rattle.scan.specs.Steps.{Step, far, with_envelope, called}
use Rattle.scan.specs.Streams.{Item, own, after, answers, Accepted, AllF32}
use Rattle.scan.proofs.Laws.{if_refused_none, both_and, both_left, both_right, all_finite_lem, all_zeros_lem, finite_append, length_zeros}
use Rattle.scan.proofs.Masked.{zeros_f32}
use Rattle.scan.proofs.Numbered.{far_number}
use Rattle.scan.proofs.Hears.{hear_all_append, hear_all_accepted, samples_by}
use Rattle.scan.proofs.Sound.{heard_in, Sound, first_refusals_lem}
use Rattle.scan.proofs.Accepted.{far_taken}
use Rattle.scan.proofs.Contracts.{far_step}
use Rattle.scan.proofs.Keeps.{called_sound}
use Rattle.scan.proofs.Alike.{Alike, AnswersAlike, called_alike}

-- ---- one after the other

module _ (slack : ℕ) (w : World) where
  -- what the far side makes of a push, and the world with it
  abbrev hearing : List Float → Heard
  hearing xs = hear_all slack w.scan.geometry (heard_in w) xs

  abbrev hearer : List Float → World
  hearer xs = record { scan = with_far w.scan (hearing xs).far; buffers = with_envelope w.buffers (hearing xs).envelope }

  -- a push that is not refused
  pub push_heard : (xs : List Float) → far_refusal slack w.scan w.buffers.envelope xs ≡ none → pushed_far slack w.scan w.buffers.envelope xs ≡ heard_by w.scan (hearing xs)
  unfolding pushed_far
  push_heard xs z = if_refused_none (far_refusal slack w.scan w.buffers.envelope xs) _ _ z

  module _ (xs ys : List Float) where
    whole_accepted : far_refusal slack w.scan w.buffers.envelope xs ≡ none → far_refusal slack (hearer xs).scan (hearer xs).buffers.envelope ys ≡ none
        → far_refusal slack w.scan w.buffers.envelope (xs ++ ys) ≡ none
    unfolding far_refusal pick
    whole_accepted z z' =
        let first : first_refusals w.scan (eqb (length w.buffers.envelope) (envelope_len slack (due w.scan))) ≡ 0 = (passed_both (first_refusals w.scan _) _ z).0 in
        let room : leb (w.scan.far.accepted + length (xs ++ ys)) limit ≡ true =
        le-leb (w.scan.far.accepted + length (xs ++ ys)) limit (omega (arith, (far_taken slack (hearer xs) ys z').room, hear_all_accepted slack w.scan.geometry (heard_in w) xs, length-append xs ys)) in
        let fine : all_finite (xs ++ ys) ≡ true = finite_append xs ys ∙ both_and _ _ (far_taken slack w xs z).finite (far_taken slack (hearer xs) ys z').finite in
        rw (first, room, fine)

    -- the state, the envelope and the answer of one push are those of two, where both are accepted
    pub push_append : far_refusal slack w.scan w.buffers.envelope xs ≡ none
        → far_refusal slack (pushed_far slack w.scan w.buffers.envelope xs).changed.scan (pushed_far slack w.scan w.buffers.envelope xs).envelope ys ≡ none
        → pushed_far slack w.scan w.buffers.envelope (xs ++ ys) ≡ pushed_far slack (pushed_far slack w.scan w.buffers.envelope xs).changed.scan (pushed_far slack w.scan w.buffers.envelope xs).envelope ys
    push_append z =
        rw (push_heard xs z)
        (λ z'. push_heard (xs ++ ys) (whole_accepted z z') ∙ ap (heard_by w.scan) (hear_all_append slack w.scan.geometry (heard_in w) xs ys) ∙ sym (push_heard_next z'))
      where
        push_heard_next : far_refusal slack (hearer xs).scan (hearer xs).buffers.envelope ys ≡ none → pushed_far slack (hearer xs).scan (hearer xs).buffers.envelope ys ≡ heard_by (hearer xs).scan (hear_all slack w.scan.geometry (hearing xs) ys)
        push_heard_next z' = (unfold pushed_far in if_refused_none (far_refusal slack (hearer xs).scan (hearer xs).buffers.envelope ys) _ _ z')

pub unrefused : (slack : ℕ) (w : World) (xs : List Float) → Accepted slack w (far xs) → far_refusal slack w.scan w.buffers.envelope xs ≡ none
unfolding called
unrefused slack w xs a = sym (far_number slack w xs).is ∙ a

-- the same of the calls
pub far_append : (slack : ℕ) (w : World) (xs ys : List Float) → Accepted slack w (far xs) → Accepted slack (called slack w (far xs)).world (far ys)
    → called slack w (far (xs ++ ys)) ≡ called slack (called slack w (far xs)).world (far ys)
unfolding called
far_append slack w xs ys a a' =
    ap (far_step w.buffers) (push_append slack w xs ys (unrefused slack w xs a) (unrefused slack (called slack w (far xs)).world ys a'))

-- a sound scan refuses a push for its length and for what is not finite, and for nothing else
pub far_accepted : (slack : ℕ) (w : World) (xs : List Float) → Sound slack w → w.scan.far.accepted + length xs ≤ limit → all_finite xs ≡ true → Accepted slack w (far xs)
unfolding called far_refusal pick
far_accepted slack w xs s l f =
    let lengths : eqb (length w.buffers.envelope) (envelope_len slack (due w.scan)) ≡ true = eq-eqb _ _ (s.far.length ∙ ap (envelope_len slack) s.allowed.follows) in
    let first = first_refusals_lem slack w s true in
    let room : leb (w.scan.far.accepted + length xs) limit ≡ true = le-leb (w.scan.far.accepted + length xs) limit l in
    (far_number slack w xs).is ∙ (rw (lengths, first, room, f))

-- the samples accepted grow by those of the push
pub counted : (slack : ℕ) (w : World) (xs : List Float) → Accepted slack w (far xs) → (called slack w (far xs)).world.scan.far.accepted ≡ w.scan.far.accepted + length xs
unfolding called
counted slack w xs a = ap (λ (q : FarPush). q.changed.scan.far.accepted) (push_heard slack w xs (unrefused slack w xs a)) ∙ hear_all_accepted slack w.scan.geometry (heard_in w) xs

-- so that each part of an accepted push is accepted, wherever it is parted
pub far_parts : (slack : ℕ) (w : World) (xs ys : List Float) → Sound slack w → AllF32 xs → Accepted slack w (far (xs ++ ys))
    → Accepted slack w (far xs) × Accepted slack (called slack w (far xs)).world (far ys)
far_parts slack w xs ys s t a =
    let c = far_taken slack w (xs ++ ys) (unrefused slack w (xs ++ ys) a) in
    let f = sym (finite_append xs ys) ∙ c.finite in
    let p = far_accepted slack w xs s (omega (arith, c.room, length-append xs ys)) (both_left (all_finite xs) (all_finite ys) f) in
    (p, far_accepted slack (called slack w (far xs)).world ys (called_sound slack w s (far xs) t) (omega (arith, counted slack w xs p, c.room, length-append xs ys)) (both_right (all_finite xs) (all_finite ys) f))

-- a log with two accepted pushes in turn, and with one: the state and buffers are the same, and so is what is answered after it
pub joined : (slack : ℕ) (w : World) (xs ys : List Float) (items : List Item) → Accepted slack w (far xs) → Accepted slack (called slack w (far xs)).world (far ys)
    → (after slack w (own (far (xs ++ ys)) ∷ items) ≡ after slack w (own (far xs) ∷ own (far ys) ∷ items))
    × (answers slack w (own (far xs) ∷ own (far ys) ∷ items) ≡ (called slack w (far xs)).response ∷ answers slack w (own (far (xs ++ ys)) ∷ items))
unfolding after answers
joined slack w xs ys items a a' =
    let e = far_append slack w xs ys a a' in
    (ap (λ (s : Step). after slack s.world items) e, sym (ap (λ (s : Step). (called slack w (far xs)).response ∷ s.response ∷ answers slack s.world items) e))

-- ---- silence

pub zeros_finite : (n : ℕ) → all_finite (zeros n) ≡ true
zeros_finite n = all_finite_lem (λ z. finite z ≡ true) (zeros n) (λ z e. e) (all_zeros_lem _ n refl)

-- a push of finite samples whose blocks are none of them kept, and one of as many zeros
pub silent_alike : (slack : ℕ) (keeps : ℕ → Type 0) (w v : World) (xs : List Float) → Alike slack keeps w v → Sound slack w → Sound slack v → AllF32 xs → all_finite xs ≡ true
    → ((i : ℕ) → i < length xs → keeps ((w.scan.far.accepted + i) / w.scan.geometry.decimation) → ⊥)
    → AnswersAlike slack keeps (called slack w (far xs)) (called slack v (far (zeros (length xs))))
silent_alike slack keeps w v xs h s s' t f none_kept =
    called_alike slack keeps w v (far xs) (far (zeros (length xs))) h s s'
    (record {
      samples = samples_by w.scan.geometry keeps w.scan.far.accepted xs (zeros (length xs)) (length_zeros (length xs)) (λ i l k. absurd (none_kept i l k));
      finite = zeros_finite (length xs) ∙ sym f;
      f32 = t;
      f32' = zeros_f32 (length xs);
    })
