-- Demand 3: a rearmed coarse scan forgets damage.
use Prim.Native.Nat.{ℕ, ◌+◌, ◌-◌, ◌*◌, ◌≤◌, min}
use mathlib.Core.Path.{◌≡◌, refl, sym, ap, ◌∙◌, subst, subst₂}
use mathlib.Core.List.{List}
use mathlib.Core.Bool.{true, true≢false}
use native.Mathlib.Omega.{arith}
use lib.Dec.{leb, eqb}
use lib.ListN.{length, drop}
use lib.Ieee.{Float}
use borrow.Author.Tests.{eq-eqb, le-leb}
use Rattle.answers.specs.Pick.{pick, pick_true}
use Rattle.answers.specs.Refusals.{none}
use Rattle.answers.specs.Numbers.{limit}
use Rattle.floats.specs.Functions.{zero64}
use Rattle.folds.specs.Sums.{zeros, all_finite}
use Rattle.scan.specs.Bins.{in_table, geometry_of, envelope_len, lags}
use Rattle.scan.specs.State.{Buffers, World, new_far, new_scan, due}
use Rattle.scan.specs.Blocks.{Heard, hear_all}
use Rattle.scan.specs.Calls.{Clearing, FarPush, Restart, with_far, made, making_refusal, restart_lengths, far_refusal, pushed_far, clear_refusal, rearmed}
use Rattle.scan.specs.Steps.{far, deed, rearm, refusal_of, changes, with_envelope, called, making}
use Rattle.scan.specs.Streams.{Item, Accepted, AllF32, after, heard, Stream, resumed, answers_since, facts_of, Forgets, ForgetsTwo, Facts, CleanCall, from_these_alone, clean_world, cleaned, Lengths, lengths_of, zero_buffers, first_known}
use Rattle.scan.specs.declared.Geometry.{Geometry}
use Rattle.scan.proofs.Laws.{if_refused_case, both_and, length_zeros}
use Rattle.scan.proofs.Settings.{allowed, some}
use Rattle.scan.proofs.Masked.{muted, masked, masked_length, masked_finite, masked_f32, masked_muted}
use Rattle.scan.proofs.Hears.{hear_all_accepted, HeardAlike, filled_alike, hears_all}
use Rattle.scan.proofs.Sound.{heard_in, Sound, first_refusals_lem}
use Rattle.scan.proofs.Contracts.{far_step, clear_step, reset_step}
use Rattle.scan.proofs.Fresh.{fresh, fresh_sound, began}
use Rattle.scan.proofs.Keeps.{called_sound}
use Rattle.scan.proofs.Earlier.{Passed, call_passes, passes}
use Rattle.scan.proofs.Alike.{Alike, fresh_alike}
use Rattle.scan.proofs.Late.{From, BeganLate, answers_alike}

-- what a new far side makes of these samples, and a new scan that was fed them
abbrev fed : ℕ → Geometry → List Float → Heard
fed slack g xs = hear_all slack g (record { far = new_far; envelope = zeros (envelope_len slack g) }) xs

abbrev fed_world : ℕ → ℕ → ℕ → Lengths → List Float → World
fed_world slack rate ceiling l xs =
    let h = fed slack (geometry_of rate ceiling) xs in
    record { scan = with_far (new_scan rate ceiling) h.far; buffers = with_envelope (zero_buffers slack (geometry_of rate ceiling) l) h.envelope }

module _ (slack rate ceiling : ℕ) (inside : in_table rate ceiling ≡ true) where
  abbrev g : Geometry
  g = geometry_of rate ceiling

  module _ (l : Lengths) where
    abbrev blank : Buffers
    blank = zero_buffers slack g l

    making_accepted : making_refusal slack rate ceiling blank.envelope blank.lag_sums ≡ 0
    unfolding making_refusal
    making_accepted =
        pick_true (in_table rate ceiling) _ _ inside
        ∙ pick_true (restart_lengths slack g blank.envelope blank.lag_sums) _ _ (both_and _ _ (eq-eqb _ (envelope_len slack g) (length_zeros (envelope_len slack g))) (eq-eqb _ (lags g) (length_zeros (lags g))))

    making_world : (making slack rate ceiling blank).world ≡ fresh slack g blank
    unfolding making made
    making_world = if_refused_case (λ (p : Restart). (reset_step blank p).world ≡ fresh slack g blank) (making_refusal slack rate ceiling blank.envelope blank.lag_sums) _ _ (λ r. absurd (r making_accepted)) (λ z. refl)

    -- samples that a stream accepted, the first ones silent
    module _ (n : ℕ) (xs : List Float) (few : length xs ≤ limit) (fine : all_finite xs ≡ true) (f32 : AllF32 xs) where
      silent : masked n xs ≡ muted n xs
      silent = masked_muted n xs fine

      muted_f32 : AllF32 (muted n xs)
      muted_f32 = subst AllF32 silent (masked_f32 n xs f32)

      push_accepted : far_refusal slack (fresh slack g blank).scan (fresh slack g blank).buffers.envelope (muted n xs) ≡ 0
      unfolding far_refusal pick
      push_accepted =
          let lengths : eqb (length (zeros (envelope_len slack g))) (envelope_len slack (due (fresh slack g blank).scan)) ≡ true =
          eq-eqb _ _ (length_zeros (envelope_len slack g) ∙ ap (envelope_len slack) (allowed rate ceiling inside).follows) in
          let first = first_refusals_lem slack (fresh slack g blank) (fresh_sound slack g blank (allowed rate ceiling inside)) true in
          let room : leb (0 + length (muted n xs)) limit ≡ true = le-leb (0 + length (muted n xs)) limit (omega (arith, ap length (sym silent) ∙ masked_length n xs)) in
          let all-fine : all_finite (muted n xs) ≡ true = ap all_finite (sym silent) ∙ masked_finite n xs ∙ fine in
          rw (lengths, first, room, all-fine)

      clean_is : (called slack (making slack rate ceiling blank).world (far (muted n xs))).world ≡ fed_world slack rate ceiling l (muted n xs)
      clean_is = ap (λ (w : World). (called slack w (far (muted n xs))).world) making_world ∙ pushed
        where
          pushed : (called slack (fresh slack g blank) (far (muted n xs))).world ≡ fed_world slack rate ceiling l (muted n xs)
          pushed = (unfold called pushed_far in if_refused_case (λ (p : FarPush). (far_step (fresh slack g blank).buffers p).world ≡ fed_world slack rate ceiling l (muted n xs)) (far_refusal slack (fresh slack g blank).scan (fresh slack g blank).buffers.envelope (muted n xs)) _ _ (λ r. absurd (r push_accepted)) (λ z. refl))

  -- ---- at the rearm

  module _ (block : ℕ) (lent : Buffers) (xs : List Float) (e : World) (sound : Sound slack e) (p : Passed slack (fresh slack g lent) e xs) where
    abbrev early : ℕ
    early = first_known rate block - 0

    few : length xs ≤ limit
    few = omega (arith, sound.far.accepted, ap (λ (h : Heard). h.far.accepted) p.heard, hear_all_accepted slack g (heard_in (fresh slack g lent)) xs)

    -- the facts, but for the calls since the rearm
    abbrev known : List CleanCall → Facts
    known calls = record { rate = rate; ceiling = ceiling; lengths = lengths_of lent; early = min early (length xs); late = drop early xs; calls = calls }

    heard_alike : HeardAlike slack e.scan.geometry (From block) (heard_in e) (fed slack g (muted early xs))
    unfolding geometry_of zeros
    heard_alike =
        let a = allowed rate ceiling inside in
        let new = heard_in (fresh slack g lent) in
        subst₂ (λ (q : Geometry) (h : Heard). HeardAlike slack q (From block) h (fed slack g (muted early xs))) (sym p.geometry) (sym p.heard)
        (hears_all slack g (From block) a xs (muted early xs) new new (filled_alike g block (some g a) zero64 xs early 0 (omega arith)) p.finite p.samples
        (fresh_sound slack g lent a).far.heard (fresh_alike slack (From block) g lent lent refl).heard)

    rearmed_alike : (calls : List CleanCall) → Accepted slack e (deed rearm) → Alike slack (From block) (called slack e (deed rearm)).world (clean_world slack (known calls))
    unfolding called rearmed clean_world pick
    rearmed_alike calls =
        rw (clean_is (lengths_of lent) early xs few p.finite p.samples)
        (if_refused_case (λ (c : Clearing). refusal_of (changes c.changed.answer) ≡ none → Alike slack (From block) (clear_step e.buffers c).world (fed_world slack rate ceiling (lengths_of lent) (muted early xs))) (clear_refusal e.scan e.buffers.lag_sums) _ _ (λ r a. absurd (r a))
        (λ z a. record {
          geometry = sym p.geometry;
          verdict = refl;
          heard = heard_alike;
          seen = record { near = refl; length = length_zeros (length lent.levels) ∙ sym (ap (λ (k : Lengths). k.levels) p.lengths); levels = λ i k. absurd (omega arith) };
          lengths = (λ i. record { levels = length_zeros (length lent.levels) i; window = length_zeros (length lent.window) i; prefix = length_zeros (length lent.prefix) i; squares = length_zeros (length lent.squares) i; scores = length_zeros (length lent.scores) i }) ∙ sym p.lengths;
          lag_sums = ap (λ (q : Geometry). zeros (lags q)) (sym p.geometry);
        }))

    -- no frame is under way
    rearmed_late : Accepted slack e (deed rearm) → BeganLate block (called slack e (deed rearm)).world
    unfolding called rearmed pick
    rearmed_late =
        if_refused_case (λ (c : Clearing). refusal_of (changes c.changed.answer) ≡ none → BeganLate block (clear_step e.buffers c).world) (clear_refusal e.scan e.buffers.lag_sums) _ _ (λ r a. absurd (r a))
        (λ z a i. absurd (true≢false i))

    clean_sound : (calls : List CleanCall) → Sound slack (clean_world slack (known calls))
    unfolding clean_world
    clean_sound calls =
        subst (λ (z : World). Sound slack (called slack z (far (muted early xs))).world) (sym (making_world (lengths_of lent)))
        (called_sound slack (fresh slack g (blank (lengths_of lent))) (fresh_sound slack g (blank (lengths_of lent)) (allowed rate ceiling inside)) (far (muted early xs)) (muted_f32 (lengths_of lent) early xs few p.finite p.samples))

  forgets_from : (block : ℕ) (w : World) (earlier later : List Item) → w ≡ fresh slack g w.buffers → Stream slack rate ceiling block w earlier later
      → answers_since slack w earlier later ≡ from_these_alone slack (facts_of slack rate ceiling block w earlier later)
  unfolding from_these_alone geometry_of
  forgets_from block w earlier later is s =
      let e = after slack w earlier in
      let xs = heard slack w earlier in
      let calls = cleaned slack (first_known rate block) (resumed slack w earlier) later in
      let o = passes slack earlier w (subst (Sound slack) (sym is) (fresh_sound slack g w.buffers (allowed rate ceiling inside))) s.fair in
      let p : Passed slack (fresh slack g w.buffers) e xs = subst (λ (z : World). Passed slack z e xs) is o.1 in
      answers_alike slack block (first_known rate block) later (resumed slack w earlier) _ (rearmed_alike block w.buffers xs e o.0 p calls s.rearms) (rearmed_late block w.buffers xs e o.0 p s.rearms) (called_sound slack e o.0 (deed rearm) tt)
      (clean_sound block w.buffers xs e o.0 p calls) s.fair_since s.late (ap (λ (q : Geometry). block * q.decimation) (sym ((call_passes slack e o.0 (deed rearm) tt).geometry ∙ p.geometry)))

-- ---- demand 3

pub forgets : Forgets
forgets slack rate ceiling block w earlier later s =
    let b = began slack rate ceiling w s.began in
    forgets_from slack rate ceiling b.inside block w earlier later b.is s

pub forgets_two : ForgetsTwo
forgets_two slack rate ceiling block w w' earlier earlier' later later' s s' e =
    forgets slack rate ceiling block w earlier later s ∙ ap (from_these_alone slack) e ∙ sym (forgets slack rate ceiling block w' earlier' later' s')
