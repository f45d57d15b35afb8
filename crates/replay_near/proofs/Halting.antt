-- The sample behind a run is refused or fills a frame, so that it logs a line: a run and one sample more are all of a cut.
use Prim.Native.Nat.{ℕ, suc, ◌+◌, ◌-◌, ◌^◌, ◌≤◌, ◌<◌}
use mathlib.Core.Path.{◌≡◌, refl, sym, ap, ◌∙◌, subst}
use mathlib.Core.Bool.{Bool, true, false, true≢false}
use mathlib.Core.List.{List, [], ◌∷◌}
use native.Mathlib.Omega.{arith}
use lib.Ieee.{Float}
use lib.ListN.{length, drop, get_or, length-drop, drop_of_length-le}
use lib.Seq.{drop-cons}
use Rattle.answers.specs.Pick.{pick, pick_false, pick_case}
use Rattle.answers.specs.Numbers.{next_long_count}
use Rattle.scan.specs.Bins.{full_slack}
use Rattle.scan.specs.State.{Buffers}
use Rattle.scan.specs.Calls.{pushed_near, observed}
use Rattle.scan.specs.Steps.{with_levels}
use Rattle.scan.specs.declared.Scan.{Scan}
use Rattle.scan.specs.declared.Taking.{Taking}
use Rattle.scan.specs.declared.Taking.TheVariants as taking
use Rattle.scan.specs.declared.Scoring.{Scoring}
use Rattle.scan.specs.declared.Scoring.TheVariants as scoring
use Rattle.scan_runs.specs.Runs.{Run, passes, ran}
use Rattle.replay.specs.Events.{Play, with_scan, after_score, score_played, after_taking, sample_played}
use Rattle.replay.specs.declared.Session.{Session}
use Rattle.replay.proofs.Passing.{later, passed_within}
use Rattle.replay_stream.specs.Stream.{Cut, cut, no_lines, near_cut}
use Rattle.replay_stream.specs.declared.Answer.TheVariants.{Silent}
use Rattle.replay_stream.proofs.Running.{run_cut}
use Rattle.replay_near.specs.Telling.{Told, tells, tells_of, cut_tells}
use Rattle.replay_near.specs.declared.Played.{Played}

score_logs : (e : ℕ) (s : Session) (scan : Scan) (b : Buffers) (a : Scoring) → no_lines (after_score e s scan b a).lines ≡ false
score_logs e s scan b (scoring.Refused number) = refl
score_logs e s scan b (scoring.Frame f n) = refl

stop_logs : (e : ℕ) (s : Session) (b : Buffers) (a : Taking) → passes a ≡ false → no_lines (after_taking e s b a).lines ≡ false
unfolding score_played
stop_logs e s b (taking.Refused number) h = refl
stop_logs e s b taking.Ignored h = absurd (true≢false h)
stop_logs e s b taking.Dropped h = absurd (true≢false h)
stop_logs e s b taking.Taken h = absurd (true≢false h)
stop_logs e s b taking.Full h =
    let o = observed full_slack (record { scan = s.scan; buffers = b }) in
    score_logs e s o.scored.scan o.buffers o.scored.answer

-- the sample behind a run does not pass
halts : (xs : List Float) (scan : Scan) (levels : List Float) (index : ℕ) (y : Float) (ys : List Float) → index < 2 ^ 64 → drop (ran scan levels xs index).passed xs ≡ y ∷ ys
    → passes (pushed_near (ran scan levels xs index).scan (ran scan levels xs index).levels y (later index (ran scan levels xs index).passed)).took.answer ≡ false
unfolding ran
halts [] scan levels index y ys h = λ q. let z : ◌≡◌ {A = ℕ} 0 (suc (length ys)) = ap length q in absurd (omega (arith, z))
halts (x ∷ xs) scan levels index y ys h =
    let p = pushed_near scan levels x index in
    let r = ran p.took.scan p.levels xs (next_long_count index) in
    pick_case
    (λ (z : Run). drop z.passed (x ∷ xs) ≡ y ∷ ys → passes (pushed_near z.scan z.levels y (later index z.passed)).took.answer ≡ false)
    (passes p.took.answer) _ _
    (λ t q.
    let one : suc r.passed ≡ 1 + r.passed = omega arith in
    let at : later (next_long_count index) r.passed ≡ later index (1 + r.passed) = omega arith in
    subst (λ (k : ℕ). passes (pushed_near r.scan r.levels y k).took.answer ≡ false) at
    (halts xs p.took.scan p.levels (next_long_count index) y ys (omega arith) (ap (λ (k : ℕ). drop k (x ∷ xs)) one ∙ q)))
    (λ t q.
    let same : x ≡ y = cc in
    let at : index ≡ later index 0 = omega arith in
    subst (λ (k : ℕ). passes (pushed_near scan levels y k).took.answer ≡ false) at
    (subst (λ (z : Float). passes (pushed_near scan levels z index).took.answer ≡ false) same t))

pick_cut : (t : Bool) (p : Play) (index : ℕ) (xs : List Float)
    → pick t (cut p.lines p.session p.buffers index []) (cut p.lines p.session p.buffers index xs) ≡ cut p.lines p.session p.buffers index (pick t [] xs)
unfolding pick
pick_cut true p index xs = refl
pick_cut false p index xs = refl

-- a cut whose first sample logs a line
cut_here : (e : ℕ) (s : Session) (b : Buffers) (x : Float) (xs : List Float) (index : ℕ) → no_lines (sample_played e s b x index).lines ≡ false
    → near_cut e s b (x ∷ xs) index
    ≡ cut (sample_played e s b x index).lines (sample_played e s b x index).session (sample_played e s b x index).buffers (next_long_count index) (pick (sample_played e s b x index).ends [] xs)
unfolding near_cut
cut_here e s b x xs index f =
    let p = sample_played e s b x index in
    ap (λ (c : Cut). pick p.ends (cut p.lines p.session p.buffers (next_long_count index) []) c) (pick_false _ _ _ f) ∙ pick_cut p.ends p (next_long_count index) xs

length_pick : (t : Bool) (xs : List Float) → length (pick t [] xs) ≡ pick t 0 (length xs)
unfolding pick
length_pick true xs = refl
length_pick false xs = refl

-- ---- for `near_line`: what the run left

module _ (e : ℕ) (s s' : Session) (b : Buffers) (xs : List Float) (index index' count : ℕ) (levels' : List Float) (fits : index < 2 ^ 64)
    (goes : s' ≡ with_scan s (ran s.scan b.levels xs index).scan) (counts : count ≡ (ran s.scan b.levels xs index).passed)
    (counts_on : index' ≡ later index (ran s.scan b.levels xs index).passed) (leaves : levels' ≡ (ran s.scan b.levels xs index).levels) where
  pub within : count ≤ length xs
  within = omega (arith, counts, passed_within xs s.scan b.levels index)

  behind_run : near_cut e s b xs index ≡ near_cut e s' (with_levels b levels') (drop count xs) index'
  behind_run = run_cut e xs s b index fits ∙ sym (rw (goes, counts, counts_on, leaves))

  pub all_passed : length xs ≤ count → record { session = s'; answer = Silent; index = index'; left = 0; buffers = with_levels b levels' } ≡ cut_tells (near_cut e s b xs index)
  unfolding near_cut
  all_passed m = sym (ap cut_tells (behind_run ∙ ap (λ (ys : List Float). near_cut e s' (with_levels b levels') ys index') (drop_of_length-le xs m)))

  module _ (d : Float) (more : count < length xs) where
    abbrev x : Float
    x = get_or xs count d

    abbrev p : Play
    p = sample_played e s' (with_levels b levels') x index'

    front : drop count xs ≡ x ∷ drop (suc count) xs
    front = drop-cons xs count d more

    logs : no_lines p.lines ≡ false
    unfolding sample_played
    logs =
        let r = ran s.scan b.levels xs index in
        let stop : passes (pushed_near s'.scan levels' x index').took.answer ≡ false =
        rw (goes, leaves, counts_on) (halts xs s.scan b.levels index x (drop (suc count) xs) fits (ap (λ (k : ℕ). drop k xs) (sym counts) ∙ front)) in
        stop_logs e (with_scan s' (pushed_near s'.scan levels' x index').took.scan) (with_levels b (pushed_near s'.scan levels' x index').levels) (pushed_near s'.scan levels' x index').took.answer stop

    pub one_more : (one : Played) (b'' : Buffers) → tells one b'' ≡ tells_of p
        → record { session = one.session; answer = one.answer; index = next_long_count index'; left = pick one.ends 0 (length xs - count - 1); buffers = b'' } ≡ cut_tells (near_cut e s b xs index)
    one_more one b'' q =
        let ys = drop (suc count) xs in
        let many : length xs - count - 1 ≡ length ys = omega (arith, length-drop (suc count) xs) in
        sym
        (ap cut_tells (behind_run ∙ ap (λ (zs : List Float). near_cut e s' (with_levels b levels') zs index') front ∙ cut_here e s' (with_levels b levels') x ys index' logs)
        ∙ ap (λ (k : ℕ). record { session = p.session; answer = (tells_of p).answer; index = next_long_count index'; left = k; buffers = p.buffers }) (length_pick p.ends ys)
        ∙ ap (λ (t : Told). record { session = t.session; answer = t.answer; index = next_long_count index'; left = pick t.ends 0 (length ys); buffers = t.buffers }) (sym q)
        ∙ ap (λ (k : ℕ). record { session = one.session; answer = one.answer; index = next_long_count index'; left = pick one.ends 0 k; buffers = b'' }) (sym many))
