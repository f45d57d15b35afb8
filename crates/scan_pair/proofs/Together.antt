-- Far pushes, reports of the settings and resets, as each channel sees them: the scan's own calls, where the channel's rules hold (`far_together`, `setting_together`) and where
-- the reset is accepted (`reset_together`).
use Prim.Native.Nat.{ℕ, ◌+◌}
use mathlib.Core.Path.{◌≡◌, refl, sym, ap, ◌∙◌, subst}
use mathlib.Core.List.{List}
use mathlib.Core.Bool.{Bool, true, false}
use lib.Dec.{leb, eqb}
use lib.ListN.{length}
use lib.Ieee.{Float}
use borrow.Author.Tests.{eq-eqb}
use Rattle.answers.specs.Pick.{pick, both}
use Rattle.answers.specs.Refusals.{before, require, if_refused, none, outside_table, wrong_length, broken_state, not_finite, too_large}
use Rattle.answers.specs.Numbers.{limit}
use Rattle.answers.proofs.Refusals.{passed, passed_both}
use Rattle.folds.specs.Sums.{all_finite}
use Rattle.scan.specs.Bins.{in_table, geometry_of, envelope_len, lags}
use Rattle.scan.specs.State.{new_far, new_near, new_verdict, due, keeps_rules, first_refusals}
use Rattle.scan.specs.Blocks.{hear_all}
use Rattle.scan.specs.Calls.{FarPush, changed_by, heard_by, far_refusal, pushed_far, Restart, zeroed, restart_lengths, reset_refusal, was_reset, making_refusal, made, report_refusal, bin_samples, ceiling_samples}
use Rattle.scan.specs.Calls as base-calls
use Rattle.scan.specs.Steps.{Response, deed, refusal_of, changes, called, making, reported, with_envelope}
use Rattle.scan.specs.Steps as base
use Rattle.scan.specs.Streams.{Accepted}
use Rattle.scan.specs.declared.Geometry.{Geometry}
use Rattle.scan.specs.declared.Far.{Far}
use Rattle.answers.specs.declared.Change.TheVariants as change
use Rattle.scan.specs.declared.SamplesReport.{SamplesReport}
use Rattle.scan.specs.declared.Scan.{Scan}
use Rattle.scan.proofs.Laws.{if_refused_case, if_refused_both, both_and, both_left, both_right}
use Rattle.scan.proofs.Sound.{Sound, rules_hold}
use Rattle.scan.proofs.Accepted.{first_passed}
use Rattle.scan.proofs.Contracts.{far_step, reset_step}
use Rattle.scan_pair.specs.State.{Side, first, second, PairBuffers, PairWorld, chosen, pair_with_far, common, buffers_of, seen}
use Rattle.scan_pair.specs.Calls.{PairRestart, both_anew, both_lengths, pair_making_refusal, pair_made, pair_reset_refusal, pair_reset, pair_far, pair_bin_samples, pair_ceiling_samples}
use Rattle.scan_pair.specs.Steps.{Setting, bin_samples_report, ceiling_samples_report, far, reset, settings, as_setting, pair_step, setting_reported, with_pair_envelope, restart_step, pair_called, pair_making}
use Rattle.scan_pair.specs.Streams.{PairAccepted}
use Rattle.scan_pair.proofs.Common.{common_refusals, common_judges, channel_adds_none}
use Rattle.scan_pair.proofs.Channels.{ByItsOwn}

-- ---- far pushes

-- the whole list of refusals of a far push: no channel stands in it
pub far_judged : (slack : ℕ) (w : PairWorld) (xs : List Float)
    → refusal_of (pair_called slack w (far xs)).response
    ≡ before (common_refusals w.pair (eqb (length w.buffers.envelope) (envelope_len slack (due (common w.pair)))))
    (require (leb (w.pair.far.accepted + length xs) limit) too_large
    (require (all_finite xs) not_finite
    none))
unfolding pair_called pair_far pushed_far far_refusal
far_judged slack w xs =
    let n = far_refusal slack (common w.pair) w.buffers.envelope xs in
    if_refused_case (λ (q : FarPush). refusal_of (changes q.changed.answer) ≡ n) n _ _ (λ r. refl) (λ z. sym z)
    ∙ ap (λ (m : ℕ). before m (require (leb (w.pair.far.accepted + length xs) limit) too_large (require (all_finite xs) not_finite none))) (common_judges w.pair _)

pub far_seen : (w : PairWorld) (d : Side) (f : Far) (e : List Float)
    → seen (record { pair = pair_with_far w.pair f; buffers = with_pair_envelope w.buffers e }) d ≡ record { scan = base-calls.with_far (seen w d).scan f; buffers = with_envelope (seen w d).buffers e }
far_seen w first f e = refl
far_seen w second f e = refl

module _ (slack : ℕ) (w : PairWorld) (d : Side) (xs : List Float) where
  abbrev e : List Float
  e = w.buffers.envelope

  abbrev pushed : Scan → ℕ → FarPush
  pushed s n = if_refused n (record { changed = changed_by (change.Refused n) s; envelope = e }) (heard_by s (hear_all slack s.geometry (record { far = s.far; envelope = e }) xs))

  abbrev Alike : FarPush → FarPush → Type 0
  Alike q t = ByItsOwn d (pair_step (changes q.changed.answer) (pair_with_far w.pair q.changed.scan.far) (with_pair_envelope w.buffers q.envelope)) (far_step (seen w d).buffers t)

  -- by the same number both are refused, or both hear the same
  pushed_alike : (n : ℕ) → Alike (pushed (common w.pair) n) (pushed (seen w d).scan n)
  pushed_alike n = if_refused_both Alike n _ _ _ _ (record { response = refl; world = far_seen w d _ _ }) (λ z. record { response = refl; world = far_seen w d _ _ })

  far_number : keeps_rules (seen w d).scan ≡ true → far_refusal slack (common w.pair) e xs ≡ far_refusal slack (seen w d).scan e xs
  unfolding far_refusal
  far_number r = ap (λ (m : ℕ). before m (require (leb (w.pair.far.accepted + length xs) limit) too_large (require (all_finite xs) not_finite none))) (channel_adds_none w.pair (chosen w.pair d) r _)

  pub far_together : keeps_rules (seen w d).scan ≡ true → ByItsOwn d (pair_called slack w (far xs)) (called slack (seen w d) (base.far xs))
  unfolding pair_called pair_far called pushed_far
  far_together r =
      let n = far_refusal slack (common w.pair) e xs in
      subst (λ (m : ℕ). Alike (pushed (common w.pair) n) (pushed (seen w d).scan m)) (far_number r) (pushed_alike n)

-- ---- reports of the settings

-- the whole list of refusals: no channel stands in it
pub setting_judged : (slack : ℕ) (w : PairWorld) (r : Setting) → refusal_of (pair_called slack w (settings r)).response ≡ common_refusals w.pair true
unfolding pair_called report_refusal
setting_judged slack w r = judged r ∙ common_judges w.pair true
  where
    judged : (r : Setting) → refusal_of (setting_reported w.pair r) ≡ report_refusal (common w.pair)
    judged bin_samples_report = (unfold pair_bin_samples bin_samples in if_refused_case (λ (q : SamplesReport). refusal_of (base.reports_samples q) ≡ report_refusal (common w.pair)) (report_refusal (common w.pair)) _ _ (λ n. refl) (λ z. sym z))
    judged ceiling_samples_report = (unfold pair_ceiling_samples ceiling_samples in if_refused_case (λ (q : SamplesReport). refusal_of (base.reports_samples q) ≡ report_refusal (common w.pair)) (report_refusal (common w.pair)) _ _ (λ n. refl) (λ z. sym z))

module _ (slack : ℕ) (w : PairWorld) (d : Side) (h : keeps_rules (seen w d).scan ≡ true) where
  report_number : report_refusal (common w.pair) ≡ report_refusal (seen w d).scan
  unfolding report_refusal
  report_number = channel_adds_none w.pair (chosen w.pair d) h true

  setting_same : (r : Setting) → setting_reported w.pair r ≡ reported (seen w d).scan (as_setting r)
  setting_same bin_samples_report = (unfold pair_bin_samples bin_samples in rw report_number)
  setting_same ceiling_samples_report = (unfold pair_ceiling_samples ceiling_samples in rw report_number)

  pub setting_together : (r : Setting) → ByItsOwn d (pair_called slack w (settings r)) (called slack (seen w d) (deed (base.ask (as_setting r))))
  unfolding pair_called called
  setting_together r = record { response = setting_same r; world = refl }

-- ---- resets

-- three lines of refusals of two channels that agree in the first two
two_lists : (t l a b : Bool) → before (require t 1 (require l 2 (require a 3 none))) (require t 1 (require l 2 (require b 3 none))) ≡ require t 1 (require l 2 (require (both a b) 3 none))
unfolding pick
two_lists true true true true = refl
two_lists true true true false = refl
two_lists true true false b = refl
two_lists true false a b = refl
two_lists false l a b = refl

-- the whole list of refusals of a reset: "2 and 3 judge only the common part and the named channel's own, a reset both"
pub reset_judged : (slack : ℕ) (w : PairWorld)
    → refusal_of (pair_called slack w reset).response
    ≡ require (in_table w.pair.geometry.rate w.pair.geometry.ceiling) outside_table
    (require (both_lengths slack (due (common w.pair)) w.buffers.envelope w.buffers.first.lag_sums w.buffers.second.lag_sums) wrong_length
    (require (both (keeps_rules (seen w first).scan) (keeps_rules (seen w second).scan)) broken_state
    none))
unfolding pair_called pair_reset pair_reset_refusal first_refusals
reset_judged slack w =
    let n = pair_reset_refusal slack w.pair w.buffers.envelope w.buffers.first.lag_sums w.buffers.second.lag_sums in
    if_refused_case (λ (q : PairRestart). refusal_of (changes q.changed.answer) ≡ n) n _ _ (λ r. refl) (λ z. sym z)
    ∙ two_lists (in_table w.pair.geometry.rate w.pair.geometry.ceiling) _ (keeps_rules (seen w first).scan) (keeps_rules (seen w second).scan)

passes : (s : Scan) (lengths : Bool) → in_table s.geometry.rate s.geometry.ceiling ≡ true → lengths ≡ true → keeps_rules s ≡ true → first_refusals s lengths ≡ 0
unfolding first_refusals pick
passes s lengths i l r = rw (i, l, r)

-- what a making or a reset leaves is new for each channel
anew : (slack : ℕ) (b : PairBuffers) (g : Geometry) (d : Side) → ByItsOwn d (restart_step b (both_anew slack g)) (reset_step (buffers_of b d) (zeroed slack (record { geometry = g; far = new_far; near = new_near; verdict = new_verdict })))
anew slack b g first = record { response = refl; world = refl }
anew slack b g second = record { response = refl; world = refl }

-- what an accepted reset has found right
pub record ResetPassed (slack : ℕ) (w : PairWorld) : Type 0 where
  pub inside : in_table w.pair.geometry.rate w.pair.geometry.ceiling ≡ true
  pub lengths : both_lengths slack (due (common w.pair)) w.buffers.envelope w.buffers.first.lag_sums w.buffers.second.lag_sums ≡ true
  pub rules : (d : Side) → keeps_rules (seen w d).scan ≡ true

module _ (slack : ℕ) (w : PairWorld) where
  abbrev number : ℕ
  number = pair_reset_refusal slack w.pair w.buffers.envelope w.buffers.first.lag_sums w.buffers.second.lag_sums

  reset_number : PairAccepted slack w reset → number ≡ 0
  unfolding pair_called pair_reset
  reset_number = if_refused_case (λ (q : PairRestart). refusal_of (changes q.changed.answer) ≡ none → number ≡ 0) number _ _ (λ r e. e) (λ z e. z)

  pub reset_passed : number ≡ 0 → ResetPassed slack w
  unfolding pair_reset_refusal
  reset_passed z =
      let both = passed_both (first_refusals (seen w first).scan _) _ z in
      let a = first_passed (seen w first).scan _ both.0 in
      let b = first_passed (seen w second).scan _ both.1 in
      record { inside = a.inside; lengths = a.lengths; rules = λ d. kept d a.rules b.rules }
    where
      kept : (d : Side) → keeps_rules (seen w first).scan ≡ true → keeps_rules (seen w second).scan ≡ true → keeps_rules (seen w d).scan ≡ true
      kept first p q = p
      kept second p q = q

  own_lengths : (d : Side) → ResetPassed slack w → restart_lengths slack (due (seen w d).scan) w.buffers.envelope (seen w d).buffers.lag_sums ≡ true
  own_lengths first h = both_left _ _ h.lengths
  own_lengths second h = both_right (restart_lengths slack (due (common w.pair)) w.buffers.envelope w.buffers.first.lag_sums) _ h.lengths

  base_number : (d : Side) → ResetPassed slack w → reset_refusal slack (seen w d).scan w.buffers.envelope (seen w d).buffers.lag_sums ≡ 0
  unfolding reset_refusal
  base_number d h = passes (seen w d).scan _ h.inside (own_lengths d h) (h.rules d)

  -- a reset of the pair that is accepted is one of each channel
  pub reset_together : (d : Side) → PairAccepted slack w reset → ByItsOwn d (pair_called slack w reset) (called slack (seen w d) (deed base.reset))
  unfolding pair_called pair_reset called was_reset
  reset_together d a =
      let z = reset_number a in
      let m = base_number d (reset_passed z) in
      let t = was_reset slack (seen w d).scan w.buffers.envelope (seen w d).buffers.lag_sums in
      if_refused_case (λ (q : PairRestart). ByItsOwn d (restart_step w.buffers q) (reset_step (seen w d).buffers t)) number _ _ (λ r. absurd (r z))
      (λ z. if_refused_case (λ (t : Restart). ByItsOwn d (restart_step w.buffers (both_anew slack w.pair.geometry)) (reset_step (seen w d).buffers t)) (reset_refusal slack (seen w d).scan w.buffers.envelope (seen w d).buffers.lag_sums) _ _ (λ r. absurd (r m))
      (λ m. anew slack w.buffers w.pair.geometry d))

  -- and of each channel it is accepted
  pub reset_of_each : (d : Side) → PairAccepted slack w reset → Accepted slack (seen w d) (deed base.reset)
  reset_of_each d a = subst (λ (r : Response). refusal_of r ≡ none) (reset_together d a).response a

-- ---- a sound pair

-- what each channel sees is sound
abbrev pub PairSound : ℕ → PairWorld → Type 0
PairSound slack w = (d : Side) → Sound slack (seen w d)

module _ (slack : ℕ) (w : PairWorld) (s : PairSound slack w) where
  sound_lengths : (d : Side) → restart_lengths slack (due (seen w d).scan) w.buffers.envelope (seen w d).buffers.lag_sums ≡ true
  sound_lengths d =
      let g = due (seen w d).scan in
      both_and (eqb (length w.buffers.envelope) (envelope_len slack g)) _ (eq-eqb _ (envelope_len slack g) ((s d).far.length ∙ ap (envelope_len slack) (s d).allowed.follows))
      (eq-eqb (length (seen w d).buffers.lag_sums) (lags g) ((s d).lag_sums.length ∙ ap lags (s d).allowed.follows))

  sound_both : both_lengths slack (due (common w.pair)) w.buffers.envelope w.buffers.first.lag_sums w.buffers.second.lag_sums ≡ true
  sound_both = both_and (restart_lengths slack (due (common w.pair)) w.buffers.envelope w.buffers.first.lag_sums) _ (sound_lengths first) (sound_lengths second)

  sound_number : number slack w ≡ 0
  unfolding pair_reset_refusal pick
  sound_number = rw (none_of first, none_of second)
    where
      none_of : (d : Side) → first_refusals (seen w d).scan (both_lengths slack (due (common w.pair)) w.buffers.envelope w.buffers.first.lag_sums w.buffers.second.lag_sums) ≡ 0
      none_of d = passes (seen w d).scan _ (s d).allowed.inside sound_both (rules_hold slack (seen w d) (s d))

  -- a sound pair may always be reset
  pub reset_accepts : PairAccepted slack w reset
  unfolding pair_called pair_reset
  reset_accepts = if_refused_case (λ (q : PairRestart). refusal_of (changes q.changed.answer) ≡ none) (number slack w) _ _ (λ r. absurd (r sound_number)) (λ z. refl)

-- ---- a making

module _ (slack rate ceiling : ℕ) (lent : PairBuffers) where
  abbrev making_number : ℕ
  making_number = pair_making_refusal slack rate ceiling lent.envelope lent.first.lag_sums lent.second.lag_sums

  made_lengths : (d : Side) → both_lengths slack (geometry_of rate ceiling) lent.envelope lent.first.lag_sums lent.second.lag_sums ≡ true → restart_lengths slack (geometry_of rate ceiling) lent.envelope (buffers_of lent d).lag_sums ≡ true
  made_lengths first h = both_left _ _ h
  made_lengths second h = both_right (restart_lengths slack (geometry_of rate ceiling) lent.envelope lent.first.lag_sums) _ h

  base_making : (d : Side) → making_number ≡ 0 → making_refusal slack rate ceiling lent.envelope (buffers_of lent d).lag_sums ≡ 0
  unfolding pair_making_refusal making_refusal
  base_making d z =
      let a = passed (in_table rate ceiling) 0 _ z in
      let l = made_lengths d (passed (both_lengths slack (geometry_of rate ceiling) lent.envelope lent.first.lag_sums lent.second.lag_sums) 1 none a.1).0 in
      (unfold pick in rw (a.0, l))

  pub making_together : (d : Side) → refusal_of (pair_making slack rate ceiling lent).response ≡ none → ByItsOwn d (pair_making slack rate ceiling lent) (making slack rate ceiling (buffers_of lent d))
  unfolding pair_making pair_made making made
  making_together d =
      if_refused_case (λ (q : PairRestart). refusal_of (changes q.changed.answer) ≡ none → ByItsOwn d (restart_step lent q) (reset_step (buffers_of lent d) (made slack rate ceiling lent.envelope (buffers_of lent d).lag_sums))) making_number _ _ (λ r a. absurd (r a))
      (λ z a. if_refused_case (λ (t : Restart). ByItsOwn d (restart_step lent (both_anew slack (geometry_of rate ceiling))) (reset_step (buffers_of lent d) t)) (making_refusal slack rate ceiling lent.envelope (buffers_of lent d).lag_sums) _ _ (λ r. absurd (r (base_making d z)))
      (λ m. anew slack lent (geometry_of rate ceiling) d))
