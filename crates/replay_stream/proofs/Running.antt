-- For the code: samples that pass are no part of a cut, so that a run of them may be pushed at once.
use Prim.Native.Nat.{ℕ, suc, ◌+◌, ◌^◌, ◌<◌}
use mathlib.Core.Path.{◌≡◌, refl, ap, ◌∙◌}
use mathlib.Core.Bool.{true, false≢true}
use mathlib.Core.List.{List, [], ◌∷◌}
use native.Mathlib.Omega.{arith}
use lib.Ieee.{Float}
use lib.ListN.{drop}
use Rattle.answers.specs.Pick.{pick, pick_case}
use Rattle.answers.specs.Numbers.{next_long_count}
use Rattle.scan.specs.State.{Buffers}
use Rattle.scan.specs.Calls.{pushed_near}
use Rattle.scan.specs.Steps.{with_levels}
use Rattle.scan.specs.declared.Taking.{Taking}
use Rattle.scan.specs.declared.Taking.TheVariants as taking
use Rattle.scan_runs.specs.Runs.{Run, passes, ran}
use Rattle.replay.specs.Events.{Play, goes_on, after_taking, with_scan, sample_played}
use Rattle.replay.specs.declared.Session.{Session}
use Rattle.replay.proofs.Passing.{later}
use Rattle.replay_stream.specs.Stream.{cut, no_lines, near_cut}

passes_quietly : (e : ℕ) (s : Session) (b : Buffers) (a : Taking) → passes a ≡ true → after_taking e s b a ≡ goes_on [] s b
passes_quietly e s b (taking.Refused number) h = absurd (false≢true h)
passes_quietly e s b taking.Ignored h = refl
passes_quietly e s b taking.Dropped h = refl
passes_quietly e s b taking.Taken h = refl
passes_quietly e s b taking.Full h = absurd (false≢true h)

module _ (e : ℕ) (s : Session) (b : Buffers) (x : Float) (xs : List Float) (index : ℕ) where
  abbrev next : Session
  next = with_scan s (pushed_near s.scan b.levels x index).took.scan

  abbrev left : Buffers
  left = with_levels b (pushed_near s.scan b.levels x index).levels

  one_passes : passes (pushed_near s.scan b.levels x index).took.answer ≡ true → near_cut e s b (x ∷ xs) index ≡ near_cut e next left xs (next_long_count index)
  unfolding near_cut sample_played pick
  one_passes h =
      ap (λ (p : Play).
      pick p.ends (cut p.lines p.session p.buffers (next_long_count index) [])
      (pick (no_lines p.lines) (near_cut e p.session p.buffers xs (next_long_count index)) (cut p.lines p.session p.buffers (next_long_count index) xs)))
      (passes_quietly e next left (pushed_near s.scan b.levels x index).took.answer h)

pub run_cut : (e : ℕ) (xs : List Float) (s : Session) (b : Buffers) (index : ℕ) → index < 2 ^ 64
    → near_cut e s b xs index
    ≡ near_cut e (with_scan s (ran s.scan b.levels xs index).scan) (with_levels b (ran s.scan b.levels xs index).levels) (drop (ran s.scan b.levels xs index).passed xs) (later index (ran s.scan b.levels xs index).passed)
unfolding ran
run_cut e [] s b index h = ap (near_cut e s b []) (omega arith)
run_cut e (x ∷ xs) s b index h =
    pick_case
    (λ (z : Run). near_cut e s b (x ∷ xs) index ≡ near_cut e (with_scan s z.scan) (with_levels b z.levels) (drop z.passed (x ∷ xs)) (later index z.passed))
    (passes (pushed_near s.scan b.levels x index).took.answer) _ _
    (λ t. let s' = next e s b x xs index in
    let b' = left e s b x xs index in
    let r = ran s'.scan b'.levels xs (next_long_count index) in
    let one : suc r.passed ≡ 1 + r.passed = omega arith in
    let at : later (next_long_count index) r.passed ≡ later index (1 + r.passed) = omega arith in
    one_passes e s b x xs index t
    ∙ run_cut e xs s' b' (next_long_count index) (omega arith)
    ∙ ap (λ (n : ℕ). near_cut e (with_scan s r.scan) (with_levels b r.levels) (drop r.passed xs) n) at
    ∙ ap (λ (n : ℕ). near_cut e (with_scan s r.scan) (with_levels b r.levels) (drop n (x ∷ xs)) (later index (1 + r.passed))) one)
    (λ t. ap (near_cut e s b (x ∷ xs)) (omega arith))
