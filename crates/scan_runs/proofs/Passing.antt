-- One sample of a run: whether it passes, and what it leaves.
use Rattle.std.proofs.Common.{◌≡◌, ℕ, ◌+◌, ◌*◌, ◌<◌, Bool, true, false, not, eqb, ltb, leb, List, ◌∷◌, length, sym, refl, ap, ◌∙◌, div-mul-le_self, arith, length-set, ltb-true, lt-ltb, eq-eqb, ne_eqb, eqb-true, le-leb, leb-true}
use mathlib.Core.Bool.{false≢true}
use lib.Ieee.{Float}
use lib.Ieee.Scale.{finite}
use borrow.Author.Tests.{eqb-false, not-true}
use Rattle.answers.specs.Pick.{pick, both, either, pick_true, pick_false, pick_case}
use Rattle.answers.specs.Refusals.{require, before, if_refused, none}
use Rattle.answers.specs.Numbers.{limit, next_long_count}
use Rattle.answers.proofs.Refusals.{passed}
use Rattle.scan.specs.Bins.{in_table, near_len}
use Rattle.scan.specs.State as State
use Rattle.scan.specs.State.{far_rule, near_rule, verdict_rule, keeps_rules, geometry_rule, finished, full, idle, due, first_refusals}
use Rattle.scan.specs.Blocks.{Seen, gather, dropped, hole, held_at, first_bin}
use Rattle.scan.specs.Calls.{NearPush, near_refusal, untaken, taken_by, with_near, pushed_near}
use Rattle.scan.specs.declared.Geometry.{Geometry}
use Rattle.scan.specs.declared.Near.{Near}
use Rattle.scan.specs.declared.Scan.{Scan}
use Rattle.scan.specs.declared.Taking.TheVariants as taking
use Rattle.scan.proofs.Laws.{both_and, either_or}
use Rattle.scan.proofs.Held.{Placed, held_next, held_under_way, block_placed, stands}
use Rattle.scan_calls.specs.Bounds.{Bounds}
use Rattle.scan_calls.proofs.Chains.{first, second}
use Rattle.scan_calls.proofs.Passing.{bounds, due_is}
use Rattle.scan_push.specs.Ready.{Gathers}
use Rattle.scan_push.proofs.Pushing.{held_below}
use Rattle.scan_runs.specs.Runs.{passes, rests, further, ran}
use Rattle.scan_runs.specs.Ready.{fills, passable, after_sample, Open}

-- ---- a state that keeps its rules, but for the running sum, which is tested at each sample; it is not finished, and no full frame waits

pub record Steady (s : Scan) (levels : List Float) : Type 0 where
  pub inside : in_table s.geometry.rate s.geometry.ceiling ≡ true
  pub fit : eqb (length levels) (near_len (due s)) ≡ true
  pub geometry : geometry_rule s ≡ true
  pub far : far_rule s.geometry s.far ≡ true
  pub partial : s.near.count < s.geometry.decimation
  pub room : s.near.len < s.geometry.frame
  pub begins : s.near.first * s.geometry.decimation < limit
  pub placed : Placed s.geometry s.near
  pub banked : ltb s.verdict.banked 4 ≡ true
  pub unfinished : finished s.verdict ≡ false

near_parts : (g : Geometry) (n : Near) → near_rule g n ≡ true → full g n ≡ false → (n.count < g.decimation) × (n.len < g.frame) × (n.first * g.decimation < limit) × Placed g n
unfolding near_rule
near_parts g n h e =
    let a = second (ltb n.count g.decimation) _ h in
    let b = second _ _ a in
    let c = second (leb n.len g.frame) _ b in
    let d = second (finite n.sum) _ c in (
      ltb-true n.count g.decimation (first _ _ h),
      omega (arith, leb-true n.len g.frame (first _ _ b), eqb-false n.len g.frame e),
      ltb-true (n.first * g.decimation) limit (first _ _ d),
      λ i. eqb-true (n.last + 1) _ (sym (pick_false (idle n) true _ i) ∙ second (ltb (n.first * g.decimation) limit) _ d),
    )

pub steady : (s : Scan) (levels : List Float) → Open s levels → Steady s levels
unfolding first_refusals keeps_rules verdict_rule
steady s levels o =
    let one = passed (in_table s.geometry.rate s.geometry.ceiling) 0 _ o.judged in
    let two = passed (eqb (length levels) (near_len (due s))) 1 _ one.1 in
    let rules = (passed (keeps_rules s) 2 _ two.1).0 in
    let r₁ = second (geometry_rule s) _ rules in
    let r₂ = second (far_rule s.geometry s.far) _ r₁ in
    let n = near_parts s.geometry s.near (first _ _ r₂) o.unfilled in
    record {
      inside = one.0;
      fit = two.0;
      geometry = first _ _ rules;
      far = first _ _ r₁;
      partial = n.0;
      room = n.1;
      begins = n.2;
      placed = n.3;
      banked = first _ _ (second (near_rule s.geometry s.near) _ r₂);
      unfinished = o.unfinished;
    }

pub bounded : (s : Scan) (levels : List Float) → Steady s levels → Bounds s.geometry
bounded s levels k = rw (due_is s k.geometry) (bounds s.geometry.rate s.geometry.ceiling k.inside)

pub fitting : (s : Scan) (levels : List Float) → Steady s levels → length levels ≡ s.geometry.frame
fitting s levels k = eqb-true _ _ k.fit ∙ ap near_len (sym (due_is s k.geometry))

-- ---- the refusals that are left

alone : (t : Bool) → both t true ≡ t
unfolding pick
alone true = refl
alone false = refl

-- a running sum that is not finite is refused with 3, an index with 5, and a sample with 4
abbrev number : Bool → Bool → Bool → ℕ
number sum small readable = before (require sum 3 none) (require small 5 (require readable 4 none))

-- whether the sample passes, by each test: the running sum, the index, the grid, the sample, the frame's end
pass_table : (sum small drops fine fills : Bool) (s r : Scan) (t : Seen) (levels : List Float)
    → passes
    (if_refused (number sum small (either drops fine)) (untaken s levels (taking.Refused (number sum small (either drops fine))))
    (pick drops (untaken r levels taking.Dropped) (record { took = record { scan = with_near s t.near; answer = pick fills taking.Full taking.Taken }; levels = t.levels }))
    ).took.answer
    ≡ both sum (both small (either drops (both fine (not fills))))
unfolding pick
pass_table false small drops fine fills s r t levels = refl
pass_table true false drops fine fills s r t levels = refl
pass_table true true true fine fills s r t levels = refl
pass_table true true false false fills s r t levels = refl
pass_table true true false true true s r t levels = refl
pass_table true true false true false s r t levels = refl

-- a sample that passes is not refused
past_table : (sum small drops fine fills : Bool) (a b c : NearPush) → both sum (both small (either drops (both fine (not fills)))) ≡ true
    → if_refused (number sum small (either drops fine)) a (pick drops b c) ≡ pick drops b c
unfolding pick
past_table false small drops fine fills a b c h = absurd (false≢true h)
past_table true false drops fine fills a b c h = absurd (false≢true h)
past_table true true true fine fills a b c h = refl
past_table true true false false fills a b c h = absurd (false≢true h)
past_table true true false true fills a b c h = refl

leaves_table : (drops : Bool) (s : Scan) (t u : Seen)
    → let p = pick drops (untaken (with_near s t.near) t.levels taking.Dropped) (taken_by s u) in (p.took.scan ≡ with_near s (pick drops t u).near) × (p.levels ≡ (pick drops t u).levels)
unfolding pick
leaves_table true s t u = (refl, refl)
leaves_table false s t u = (refl, refl)

module _ (s : Scan) (levels : List Float) (k : Steady s levels) where
  pub unfilled : full s.geometry s.near ≡ false
  unfilled = ne_eqb _ _ (λ (e : s.near.len ≡ s.geometry.frame). omega (arith, k.room))

  near_is : near_rule s.geometry s.near ≡ finite s.near.sum
  unfolding near_rule
  near_is =
      let a = lt-ltb s.near.count s.geometry.decimation k.partial in
      let b = le-leb s.near.len s.geometry.frame (omega (arith, k.room)) in
      let c = both_and _ _ (lt-ltb (s.near.first * s.geometry.decimation) limit k.begins) (either_or (idle s.near) _ (λ i. eq-eqb _ _ (k.placed i))) in
      pick_true _ _ _ a
      ∙ pick_true _ _ _ (pick_true _ _ _ (ap not unfilled))
      ∙ pick_true _ _ _ b
      ∙ ap (both (finite s.near.sum)) c
      ∙ alone (finite s.near.sum)

  verdict_is : verdict_rule s.near s.verdict ≡ true
  unfolding verdict_rule
  verdict_is = pick_true _ _ _ k.banked ∙ pick_true _ _ _ (ap not k.unfinished)

  rules_are : keeps_rules s ≡ finite s.near.sum
  unfolding keeps_rules
  rules_are =
      pick_true _ _ _ k.geometry
      ∙ pick_true _ _ _ k.far
      ∙ ap (λ (z : Bool). both z (verdict_rule s.near s.verdict)) near_is
      ∙ ap (both (finite s.near.sum)) verdict_is
      ∙ alone (finite s.near.sum)

  first_is : first_refusals s (eqb (length levels) (near_len (due s))) ≡ require (finite s.near.sum) 3 none
  unfolding first_refusals
  first_is = pick_true _ _ _ k.inside ∙ pick_true _ _ _ k.fit ∙ ap (λ (z : Bool). require z 3 none) rules_are

  -- with a running sum that is finite, 1 to 3 refuse nothing
  pub judged_again : finite s.near.sum ≡ true → first_refusals s true ≡ 0
  judged_again h = ap (first_refusals s) (sym k.fit) ∙ first_is ∙ pick_true _ _ _ h

  module _ (x : Float) (index : ℕ) where
    -- the near side as the sample finds it
    abbrev held : Near
    held = held_at s.near index

    held_first : held.first ≡ s.near.first
    held_first = pick_case (λ (m : Near). m.first ≡ s.near.first) (hole s.near index) _ _ (λ h. refl) (λ h. refl)

    held_steady : Steady (with_near s held) levels
    held_steady =
        record {
          inside = k.inside;
          fit = k.fit;
          geometry = k.geometry;
          far = k.far;
          partial = held_below s.near index (λ (m : Near). m.count) s.geometry.decimation k.partial refl;
          room = held_below s.near index (λ (m : Near). m.len) s.geometry.frame k.room refl;
          begins = rw held_first k.begins;
          placed = held_under_way (λ (m : Near). m.last + 1 ≡ m.first * s.geometry.decimation + State.taken s.geometry m) s.near index k.placed;
          banked = k.banked;
          unfinished = k.unfinished;
        }

    abbrev readable : Bool
    readable = either (dropped s.geometry held index) (finite x)

    abbrev refusal : ℕ
    refusal = number (finite s.near.sum) (ltb index limit) readable

    refusal_is : refusal ≡ near_refusal s levels x index
    unfolding near_refusal
    refusal_is =
        let rest = require (ltb index limit) 5 (require readable 4 none) in
        let later : pick (finished s.verdict) none (require (not (full s.geometry s.near)) 6 rest) ≡ rest =
        pick_false (finished s.verdict) none _ k.unfinished ∙ pick_true (not (full s.geometry s.near)) rest 6 (ap not unfilled) in
        sym (ap (λ (z : ℕ). before z (pick (finished s.verdict) none (require (not (full s.geometry s.near)) 6 rest))) first_is ∙ ap (before (require (finite s.near.sum) 3 none)) later)

    abbrev seen : Seen
    seen = record { near = held; levels = levels }

    abbrev picked : NearPush
    picked = pick (dropped s.geometry held index) (untaken (with_near s held) levels taking.Dropped) (taken_by s (gather s.geometry seen x index))

    push_is : pushed_near s levels x index ≡ if_refused refusal (untaken s levels (taking.Refused refusal)) picked
    unfolding pushed_near
    push_is =
        ap (λ (z : ℕ). if_refused z (untaken s levels (taking.Refused z)) (pick (finished s.verdict) (untaken s levels taking.Ignored) picked)) (sym refusal_is)
        ∙ ap (if_refused refusal (untaken s levels (taking.Refused refusal))) (pick_false (finished s.verdict) (untaken s levels taking.Ignored) picked k.unfinished)

    -- ---- whether the sample passes

    full_is : full s.geometry (gather s.geometry seen x index).near ≡ fills s.geometry held
    unfolding gather
    full_is =
        let completes = eqb (held.count + 1) s.geometry.decimation in
        let last = eqb (held.len + 1) s.geometry.frame in
        let unfull = ne_eqb _ _ (λ (e : held.len ≡ s.geometry.frame). omega (arith, held_steady.room)) in
        pick_case (λ (z : Seen). full s.geometry z.near ≡ fills s.geometry held) completes _ _ (λ t. sym (pick_true completes last false t)) (λ t. unfull ∙ sym (pick_false completes last false t))

    passes_is : passes (pushed_near s levels x index).took.answer ≡ passable s.geometry s.near x index
    unfolding passable
    passes_is =
        ap (λ (p : NearPush). passes p.took.answer) push_is
        ∙ pass_table (finite s.near.sum) (ltb index limit) (dropped s.geometry held index) (finite x) (full s.geometry (gather s.geometry seen x index).near) s (with_near s held) (gather s.geometry seen x index) levels
        ∙ ap (λ (z : Bool). both (finite s.near.sum) (both (ltb index limit) (either (dropped s.geometry held index) (both (finite x) (not z))))) full_is

    -- a sample that does not pass ends the run
    pub stays : (xs : List Float) → passable s.geometry s.near x index ≡ false → ran s levels (x ∷ xs) index ≡ rests s levels
    unfolding ran
    stays xs h = pick_false _ _ _ (passes_is ∙ h)

    -- ---- what a sample that passes leaves

    module _ (h : passable s.geometry s.near x index ≡ true) where
      abbrev next : Seen
      next = after_sample s.geometry (record { near = s.near; levels = levels }) x index

      pub small : index < limit
      unfolding passable
      small = ltb-true index limit (first _ _ (second (finite s.near.sum) _ h))

      taken : dropped s.geometry held index ≡ false → both (finite x) (not (fills s.geometry held)) ≡ true
      unfolding passable
      taken d = sym (pick_false (dropped s.geometry held index) true _ d) ∙ second (ltb index limit) _ (second (finite s.near.sum) _ h)

      pub gathers : dropped s.geometry held index ≡ false → Gathers s.geometry held levels x
      gathers d = record { bounds = bounded s levels k; fit = fitting s levels k; partial = held_steady.partial; room = held_steady.room; finite = first _ _ (taken d) }

      picked_is : pushed_near s levels x index ≡ picked
      unfolding passable
      picked_is = push_is ∙ past_table (finite s.near.sum) (ltb index limit) (dropped s.geometry held index) (finite x) (fills s.geometry held) (untaken s levels (taking.Refused refusal)) (untaken (with_near s held) levels taking.Dropped) (taken_by s (gather s.geometry seen x index)) h

      leaves : (picked.took.scan ≡ with_near s next.near) × (picked.levels ≡ next.levels)
      leaves = leaves_table (dropped s.geometry held index) s seen (gather s.geometry seen x index)

      pub goes_on : (xs : List Float) → ran s levels (x ∷ xs) index ≡ further 1 (ran (with_near s next.near) next.levels xs (index + 1))
      unfolding ran
      goes_on xs =
          let count : next_long_count index ≡ index + 1 = omega (arith, small) in
          pick_true _ _ _ (passes_is ∙ h) ∙ rw (picked_is, leaves.0, leaves.1, count)

      -- ---- it keeps the state as the next sample needs it

      begins_at : first_bin s.geometry held index * s.geometry.decimation < limit
      begins_at = pick_case (λ (z : ℕ). z * s.geometry.decimation < limit) (idle held) _ _ (λ t. omega (arith, div-mul-le_self index s.geometry.decimation, small)) (λ t. held_steady.begins)

      gathered : dropped s.geometry held index ≡ false → Steady (with_near s (gather s.geometry seen x index).near) (gather s.geometry seen x index).levels
      unfolding gather
      gathered d =
          let n = held in
          let g = s.geometry in
          let k = held_steady in
          let place = stands g n index k.placed (held_next s.near index) d in
          let completes = eqb (n.count + 1) g.decimation in
          let unfull = not-true (fills g n) (second (finite x) _ (taken d)) in
          pick_case (λ (z : Seen). Steady (with_near s z.near) z.levels) completes _ _
          (λ t. record {
            inside = k.inside;
            fit = simp length-set k.fit;
            geometry = k.geometry;
            far = k.far;
            partial = omega (arith, k.partial);
            room = omega (arith, k.room, eqb-false (n.len + 1) g.frame (sym (pick_true completes _ false t) ∙ unfull));
            begins = begins_at;
            placed = λ i. place ∙ ap (λ (z : ℕ). first_bin g n index * g.decimation + z) (sym (block_placed g n (eqb-true (n.count + 1) g.decimation t)));
            banked = k.banked;
            unfinished = k.unfinished;
          })
          (λ t. record {
            inside = k.inside;
            fit = k.fit;
            geometry = k.geometry;
            far = k.far;
            partial = omega (arith, k.partial, eqb-false (n.count + 1) g.decimation t);
            room = k.room;
            begins = begins_at;
            placed = λ i. omega (arith, place);
            banked = k.banked;
            unfinished = k.unfinished;
          })

      pub keeps : Steady (with_near s next.near) next.levels
      keeps = pick_case (λ (z : Seen). Steady (with_near s z.near) z.levels) (dropped s.geometry held index) _ _ (λ t. held_steady) gathered
