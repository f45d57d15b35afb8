-- Sample k of a near event is judged with index first + k. The definition keeps the index at the largest number of 64 bits; indices of 2^62 or more are judged alike,
-- so that it is the same as one that counts on.
use Prim.Native.Nat.{ℕ, ◌+◌, ◌-◌, ◌^◌, ◌≤◌, ◌<◌, min}
use mathlib.Core.Path.{◌≡◌, refl, sym, ap, ◌∙◌}
use mathlib.Core.Bool.{Bool, true, false, not}
use mathlib.Core.List.{List, [], ◌∷◌}
use native.Mathlib.Omega.{arith}
use mathlib.Core.Logic.{inl, inr}
use Rattle.floats.proofs.Compare.{le_or_lt}
use lib.Dec.{eqb, ltb}
use lib.ListN.{length}
use lib.Ieee.{Float}
use lib.Ieee.Scale.{finite}
use borrow.Author.Tests.{le-ltb, eqb-true}
use Rattle.answers.specs.Pick.{pick, either, pick_true, pick_false}
use Rattle.answers.specs.Refusals.{require, before, if_refused, none, not_finite, too_large, frame_waits}
use Rattle.answers.specs.Numbers.{limit, next_long_count}
use Rattle.answers.proofs.Refusals.{passed_both}
use Rattle.scan.specs.Bins.{near_len}
use Rattle.scan.specs.State.{Buffers, finished, full, due, first_refusals}
use Rattle.scan.specs.Blocks.{dropped, gather, held_at}
use Rattle.scan.specs.Calls.{NearPush, with_near, untaken, taken_by, near_refusal, pushed_near}
use Rattle.scan.specs.declared.Scan.{Scan}
use Rattle.scan.specs.declared.Taking.TheVariants as taking
use Rattle.replay.specs.Events.{Play, goes_on, continued_by, after_taking, with_scan, sample_played, near_played}
use Rattle.scan.specs.Steps.{with_levels}
use Rattle.replay.specs.declared.Session.{Session}

-- ---- indices of 2^62 or more

-- the refusal of a sample with such an index
abbrev large_refusal : Scan → List Float → ℕ
large_refusal s levels =
    before (first_refusals s (eqb (length levels) (near_len (due s))))
    (pick (finished s.verdict) none
    (require (not (full s.geometry s.near)) frame_waits too_large))

refused_large : (s : Scan) (levels : List Float) (x : Float) (index : ℕ) → limit ≤ index → near_refusal s levels x index ≡ large_refusal s levels
unfolding near_refusal
refused_large s levels x index h =
    ap (λ (n : ℕ). before (first_refusals s (eqb (length levels) (near_len (due s)))) (pick (finished s.verdict) none (require (not (full s.geometry s.near)) frame_waits n)))
    (pick_false (ltb index limit) (require (either (dropped s.geometry (held_at s.near index) index) (finite x)) not_finite none) too_large (le-ltb index limit h))

passed_finished : (done room : Bool) → pick done none (require room frame_waits too_large) ≡ 0 → done ≡ true
unfolding pick
passed_finished true room e = refl
passed_finished false true e = absurd (omega (arith, e))
passed_finished false false e = absurd (omega (arith, e))

large_finished : (s : Scan) (levels : List Float) → large_refusal s levels ≡ 0 → finished s.verdict ≡ true
large_finished s levels z =
    passed_finished (finished s.verdict) (not (full s.geometry s.near)) (passed_both (first_refusals s (eqb (length levels) (near_len (due s)))) _ z).1

settled : {A : Type 0} (t done : Bool) (a rest r : A) → (t ≡ true → done ≡ true) → pick t (pick done a rest) r ≡ pick t a r
unfolding pick
settled true done a rest r h = pick_true done a rest (h refl)
settled false done a rest r h = refl

-- what such a sample gives, whatever it holds
abbrev pushed_large : Scan → List Float → NearPush
pushed_large s levels = if_refused (large_refusal s levels) (untaken s levels (taking.Refused (large_refusal s levels))) (untaken s levels taking.Ignored)

pushed_large_lem : (s : Scan) (levels : List Float) (x : Float) (index : ℕ) → limit ≤ index → pushed_near s levels x index ≡ pushed_large s levels
unfolding pushed_near
pushed_large_lem s levels x index h =
    let m = held_at s.near index in
    let rest = pick (dropped s.geometry m index) (untaken (with_near s m) levels taking.Dropped) (taken_by s (gather s.geometry (record { near = m; levels = levels }) x index)) in
    ap (λ (n : ℕ). if_refused n (untaken s levels (taking.Refused n)) (pick (finished s.verdict) (untaken s levels taking.Ignored) rest)) (refused_large s levels x index h)
    ∙ settled (eqb (large_refusal s levels) 0) (finished s.verdict) (untaken s levels taking.Ignored) rest (untaken s levels (taking.Refused (large_refusal s levels)))
    (λ (t : eqb (large_refusal s levels) 0 ≡ true). large_finished s levels (eqb-true _ _ t))

pub judged_alike : (s : Scan) (levels : List Float) (x : Float) (i j : ℕ) → limit ≤ i → limit ≤ j → pushed_near s levels x i ≡ pushed_near s levels x j
judged_alike s levels x i j p q = pushed_large_lem s levels x i p ∙ sym (pushed_large_lem s levels x j q)

sample_alike : (e : ℕ) (s : Session) (b : Buffers) (x : Float) (i j : ℕ) → limit ≤ i → limit ≤ j → sample_played e s b x i ≡ sample_played e s b x j
unfolding sample_played
sample_alike e s b x i j p q =
    ap (λ (n : NearPush). after_taking e (with_scan s n.took.scan) (with_levels b n.levels) n.took.answer) (judged_alike s.scan b.levels x i j p q)

-- ---- an index that counts on

-- as `near_played`, with the index first + k for sample k
unfoldable pub counted_on : ℕ → Session → Buffers → List Float → ℕ → Play
counted_on e s b [] index = goes_on [] s b
counted_on e s b (x ∷ xs) index =
    let p = sample_played e s b x index in
    pick p.ends p (continued_by p (counted_on e p.session p.buffers xs (index + 1)))

abbrev kept : ℕ → ℕ
kept index = min index (2 ^ 64 - 1)

sample_kept : (e : ℕ) (s : Session) (b : Buffers) (x : Float) (index : ℕ) → sample_played e s b x (kept index) ≡ sample_played e s b x index
sample_kept e s b x index = elim (le_or_lt index (2 ^ 64 - 1)) [
  | inl small ↦ ap (sample_played e s b x) (omega (arith, small))
  | inr large ↦ sample_alike e s b x (kept index) index (omega (arith, large)) (omega (arith, large))
]

next_kept : (index : ℕ) → next_long_count (kept index) ≡ kept (index + 1)
next_kept index = omega arith

near_kept : (e : ℕ) (s : Session) (b : Buffers) (xs : List Float) (index : ℕ) → near_played e s b xs (kept index) ≡ counted_on e s b xs index
unfolding near_played counted_on
near_kept e s b [] index = refl
near_kept e s b (x ∷ xs) index =
    let p = sample_played e s b x index in
    ap (λ (q : Play). pick q.ends q (continued_by q (near_played e q.session q.buffers xs (next_long_count (kept index))))) (sample_kept e s b x index)
    ∙ ap (λ (n : ℕ). pick p.ends p (continued_by p (near_played e p.session p.buffers xs n))) (next_kept index)
    ∙ ap (λ (q : Play). pick p.ends p (continued_by p q)) (near_kept e p.session p.buffers xs (index + 1))

pub near_counts_on : (e : ℕ) (s : Session) (b : Buffers) (xs : List Float) (first : ℕ) → first < 2 ^ 64 → near_played e s b xs first ≡ counted_on e s b xs first
near_counts_on e s b xs first h =
    let same : first ≡ kept first = omega (arith, h) in
    ap (near_played e s b xs) same ∙ near_kept e s b xs first
