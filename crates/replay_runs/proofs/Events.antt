-- The events of the loop: none, a far one, a near one, and one behind the other.
use Rattle.std.specs.Prelude.{Some}
use Prim.Native.Nat.{ℕ, zero, suc, ◌+◌, ◌-◌, ◌^◌, ◌≤◌, ◌<◌}
use mathlib.Core.Path.{◌≡◌, refl, sym, ap, ◌∙◌, subst}
use mathlib.Core.Bool.{Bool, true, false, false≢true}
use mathlib.Core.List.{List}
use mathlib.Core.Logic.{inl, inr}
use native.Mathlib.Nat.{add-zero, mul-zero}
use native.Mathlib.Omega.{arith}
use lib.Dec.{eqb}
use lib.Ieee.{Float}
use lib.Ieee.Scale.{finite}
use lib.ListN.{length, drop, length-drop}
use borrow.Author.Tests.{eqb-true}
use Rattle.answers.specs.Numbers.{limit}
use Rattle.answers.proofs.Passed.{both_true}
use Rattle.floats.proofs.Compare.{le_or_lt}
use Rattle.folds.specs.Sums.{all_finite}
use Rattle.scan.specs.Bins.{full_slack, envelope_len}
use Rattle.scan.specs.State.{Buffers, full, due, first_refusals}
use Rattle.scan.specs.Blocks.{Heard, hear_all}
use Rattle.scan.specs.Calls.{FarPush}
use Rattle.scan.specs.Steps.{with_envelope, with_levels}
use Rattle.scan.specs.declared.Near.{Near}
use Rattle.scan_push.proofs.Calls.{is_heard}
use Rattle.scan_runs.specs.Ready.{scan_of}
use Rattle.scan_runs.specs.Runs.{Run, ran}
use Rattle.recording.specs.Recording.{event_at}
use Rattle.recording.specs.Samples.{width, bytes_of, samples_in, used_up}
use Rattle.recording.specs.declared.Header.{Header}
use Rattle.recording.specs.declared.Event.{Event}
use Rattle.recording.specs.declared.Event.TheVariants as event
use Rattle.recording.proofs.Forms.{bytes_mono}
use Rattle.replay.specs.Words.{change_lines}
use Rattle.replay.specs.Events.{with_scan, with_used}
use Rattle.replay.specs.declared.Session.{Session}
use Rattle.replay.proofs.Passing.{later, passed_within}
use Rattle.replay_stream.specs.Stream.{Hand, bytes_used, beyond, Next, next, told, midway, turn, on_top, next_line}
use Rattle.replay_stream.specs.Giving.{hand_of}
use Rattle.replay_stream.specs.declared.Stage.{Stage}
use Rattle.replay_stream.specs.declared.Stage.TheVariants.{Events, Midway}
use Rattle.replay_stream.specs.declared.Answer.TheVariants.{Silent}
use Rattle.replay_stream.specs.declared.Place.{Place}
use Rattle.replay_stream.specs.declared.Bytes.{Bytes}
use Rattle.replay_stream.specs.declared.Ended.{Ended}
use Rattle.replay_stream.proofs.Fronts.{samples_length, entry_here}
use Rattle.replay_stream.proofs.Looping as looping
use Rattle.replay_stream.proofs.Turning.{good_whole, beyond_twice}
use Rattle.replay_entry.proofs.Entries.{midway_some, far_pushed, near_entered}
use Rattle.replay_entry.proofs.Supplying.{at_hand_lem}
use Rattle.replay_runs.specs.Silences.{scan_at, place_at, lending, answered, Calm, Inside, Forward, Follows, Plays, Before, Supplied, halted, heard_on, took_on}
use Rattle.replay_runs.specs.declared.Silence.{Silence}
use Rattle.replay_runs.proofs.Judging.{far_unrefused, ready, far_judged}
use Rattle.replay_runs.proofs.Silently.{sum, onward, entry_turn_lem, all_pass, some_pass}

-- ---- none, and one behind the other

module _ (h : Header) (s : Session) (ev fr nr : List ℕ) where
  module _ (at : Silence) (e l : List Float) (i : Inside ev fr nr at.bytes) (c : Calm s at) where
    stays : Forward h at.number (place_at s at)
    stays = record { least = omega arith; most = λ m. absurd (omega (arith, m)); still = λ q. ap (midway (at.number - 1) at.index) c.none }

    pub starts : Follows h s ev fr nr at e l at e l
    starts = record { same = λ b ended. refl; inside = i; forward = stays; calm = λ t. c; few = omega (arith, c.none); behind = λ m. absurd (omega (arith, m, c.none)) }

    pub halts : Plays h s ev fr nr at e l (halted at) e l
    halts = record { follows = record { same = λ b ended. refl; inside = i; forward = stays; calm = λ t. absurd (false≢true t); few = omega (arith, c.none); behind = λ m. absurd (omega (arith, m, c.none)) }; onward = λ t. absurd (false≢true t) }

  pub chain : (at : Silence) (e l : List Float) (q : Silence) (e' l' : List Float) (r : Silence) (e'' l'' : List Float)
      → Follows h s ev fr nr at e l q e' l' → Follows h s ev fr nr q e' l' r e'' l'' → Follows h s ev fr nr at e l r e'' l''
  chain at e l q e' l' r e'' l'' f g =
      record {
        same = λ b ended. f.same b ended ∙ g.same b ended;
        inside = g.inside;
        forward = record {
          least = omega (arith, f.forward.least, g.forward.least);
          most = λ m. elim (le_or_lt r.number q.number) [
            | inl none ↦ omega (arith, none, g.forward.least, f.forward.most (omega (arith, none, m)))
            | inr some ↦ g.forward.most some
          ];
          still = λ z. g.forward.still (omega (arith, z, f.forward.least, g.forward.least));
        };
        calm = g.calm;
        few = g.few;
        behind = g.behind;
      }

-- ---- for the loop's end

abbrev pub rank : Bool → ℕ
rank true = 1
rank false = 0

pub nearer : (h : Header) (s : Session) (ev fr nr : List ℕ) (at : Silence) (e l : List Float) (r : Silence) (e' l' : List Float) (going : Bool) → r.going ≡ going
    → Plays h s ev fr nr at e l r e' l' → h.events - r.number + rank going < h.events - at.number + 1
nearer h s ev fr nr at e l r e' l' true z p = omega (arith, p.onward z, p.follows.forward.most (p.onward z))
nearer h s ev fr nr at e l r e' l' false z p = omega (arith, p.follows.forward.least)

-- ---- an event

-- its 16 bytes are there
behind_it : (ev : List ℕ) (i : ℕ) (k : Event) → i ≤ length ev → event_at ev i ≡ Some k → event_at (drop i ev) 0 ≡ Some k
behind_it ev i k m q = sym (entry_here ev i (drop i ev) (record { at = refl; most = m })) ∙ q

pub entry_there : (ev : List ℕ) (i : ℕ) (k : Event) → i ≤ length ev → event_at ev i ≡ Some k → i + 16 ≤ length ev
entry_there ev i k m q = omega (arith, good_whole (drop i ev) k (behind_it ev i k m q), length-drop i ev, m)

module _ (h : Header) (s : Session) (ev fr nr : List ℕ) (at : Silence) (e l : List Float) (c : Calm s at) where
  abbrev n : ℕ
  n = at.number

  abbrev u : Bytes
  u = at.bytes

  abbrev sess : Session
  sess = (place_at s at).session

  abbrev standing : Place
  standing = record { number = n; stage = Events; session = sess }

  abbrev from : Hand → Bytes → Place → Buffers → Next
  from hand v p b = on_top v (next_line h p b (beyond v hand))

  stands : place_at s at ≡ standing
  stands = ap (λ (k : ℕ). record { number = n; stage = midway (n - 1) at.index k; session = sess }) c.none

  three : (a b' d a' b'' d' : ℕ) → a ≡ a' → b' ≡ b'' → d ≡ d' → bytes_used a b' d ≡ bytes_used a' b'' d'
  three a b' d a' b'' d' p q r = rw (p, q, r)

  used_alike : (hand : Hand) (v v' : Bytes) (p : Place) (b : Buffers) → v ≡ v' → from hand v p b ≡ from hand v' p b
  used_alike hand v v' p b q = ap (λ (x : Bytes). from hand x p b) q

  place_alike : (hand : Hand) (v : Bytes) (p p' : Place) (b : Buffers) → p ≡ p' → from hand v p b ≡ from hand v p' b
  place_alike hand v p p' b q = ap (λ (x : Place). from hand v x b) q

  good : (k : Event) → Before h ev fr nr at k → event_at (drop u.events ev) 0 ≡ Some k
  good k bef = behind_it ev u.events k bef.inside.events bef.entry

  there_16 : (k : Event) → Before h ev fr nr at k → u.events + 16 ≤ length ev
  there_16 k bef = entry_there ev u.events k bef.inside.events bef.entry

  -- ---- far

  module _ (count : ℕ) (bef : Before h ev fr nr at (event.Far count)) (samples : List Float) (sup : Supplied h.form at.used.far h.far count u.far fr samples) (fit : length e ≡ envelope_len full_slack (due s.scan)) where
    abbrev size : ℕ
    size = bytes_of h.form count

    abbrev xs : List Float
    xs = samples_in h.form (drop u.far fr) count

    abbrev heard : Heard
    heard = hear_all full_slack s.scan.geometry (record { far = at.far; envelope = e }) xs

    abbrev behind : Silence
    behind = heard_on at heard.far count size

    module _ (lim : at.far.accepted + count ≤ limit) (fine : all_finite xs ≡ true) where
      room : at.far.accepted + length xs ≤ limit
      room = omega (arith, lim, samples_length h.form (drop u.far fr) count)

      module _ (b : Buffers) (ended : Ended) where
        abbrev hand : Hand
        hand = hand_of ev fr nr ended

        abbrev gave : Next
        gave = next (n + 1) Events (with_scan (with_used sess (used_up (at.used.far + count) at.used.near)) (scan_of s.scan.geometry heard.far at.near s.scan.verdict)) (with_envelope (lending b e l) heard.envelope) Silent (bytes_used 16 size 0)

        turns_to : turn h standing (lending b e l) (beyond u hand) ≡ gave
        unfolding change_lines
        turns_to =
            entry_turn_lem h n sess (lending b e l) (beyond u hand) (event.Far count) bef.some (good (event.Far count) bef)
            ∙ far_pushed h n sess (lending b e l) (beyond u hand) count
            (at_hand_lem h.form at.used.far h.far count (beyond u hand).far sup.total (omega (arith, sup.there, length-drop u.far fr)))
            ∙ ap (λ (x : FarPush). next (n + 1) Events (with_scan (with_used sess (used_up (at.used.far + count) at.used.near)) x.changed.scan) (with_envelope (lending b e l) x.envelope) (told (change_lines n x.changed.answer)) (bytes_used 16 size 0))
            (sym (is_heard full_slack (scan_at s at) e xs {n = 0} (sym (far_unrefused (scan_at s at) e xs c.judged fit room fine)) refl))

        far_same : answered h s (lending b e l) hand at ≡ answered h s (lending b heard.envelope l) hand behind
        far_same =
            place_alike hand u (place_at s at) standing (lending b e l) stands
            ∙ onward h hand standing (lending b e l) u gave turns_to refl
            ∙ used_alike hand (sum u (bytes_used 16 size 0)) behind.bytes (place_at s behind) (lending b heard.envelope l) (three (u.events + 16) (u.far + size) (u.near + 0) (u.events + 16) (u.far + size) u.near refl refl (add-zero u.near))

      pub far_plays : Plays h s ev fr nr at e l behind heard.envelope l
      far_plays =
          record {
            follows = record {
              same = far_same;
              inside = record { events = there_16 (event.Far count) bef; far = sup.there; near = bef.inside.near };
              forward = record { least = omega arith; most = λ m. omega (arith, bef.some); still = λ q. absurd (omega (arith, q)) };
              calm = λ t. record {
                none = refl;
                judged = far_judged s.scan.geometry at.far at.near s.scan.verdict e xs c.judged (ready (scan_at s at) e xs c.judged fit room fine) t;
                unfilled = c.unfilled;
              };
              few = omega arith;
              behind = λ m. omega arith;
            };
            onward = λ t. omega arith;
          }

  -- ---- near

  module _ (count first : ℕ) (bef : Before h ev fr nr at (event.Near count first)) (samples : List Float) (sup : Supplied h.form at.used.near h.near count u.near nr samples) (fits : first < 2 ^ 64)
      (m : Near) (l' : List Float) (passed : ℕ) where
    abbrev ys : List Float
    ys = samples_in h.form (drop u.near nr) count

    abbrev left : Run
    left = record { scan = scan_of s.scan.geometry at.far m s.scan.verdict; levels = l'; passed = passed }

    abbrev taken : Silence
    taken = took_on h.form at count first m passed

    abbrev sess' : Session
    sess' = with_used sess (used_up at.used.far (at.used.near + count))

    -- the event is entered
    abbrev inner : Place
    inner = record { number = n + 1; stage = midway n first count; session = sess' }

    abbrev v : Bytes
    v = bytes_used (u.events + 16) u.far u.near

    module _ (is : ◌≡◌ {A = Run} left (ran (scan_at s at) l ys first)) where
      most : passed ≤ count
      most = omega (arith, ap (λ (z : Run). z.passed) is, passed_within ys (scan_at s at) l first, samples_length h.form (drop u.near nr) count)

      module _ (b : Buffers) (ended : Ended) where
        abbrev whole : Hand
        whole = hand_of ev fr nr ended

        abbrev B : Buffers
        B = lending b e l

        enters : answered h s B whole at ≡ from whole v inner B
        enters =
            place_alike whole u (place_at s at) standing B stands
            ∙ onward h whole standing B u (next (n + 1) (midway n first count) sess' B Silent (bytes_used 16 0 0))
            (entry_turn_lem h n sess B (beyond u whole) (event.Near count first) bef.some (good (event.Near count first) bef)
            ∙ near_entered h n sess B (beyond u whole) count first (at_hand_lem h.form at.used.near h.near count (beyond u whole).near sup.total (omega (arith, sup.there, length-drop u.near nr))))
            refl
            ∙ used_alike whole (sum u (bytes_used 16 0 0)) v inner B (three (u.events + 16) (u.far + 0) (u.near + 0) (u.events + 16) u.far u.near refl (add-zero u.far) (add-zero u.near))

        -- where its samples are taken from
        there : bytes_of h.form count ≤ length (drop u.near nr)
        there = omega (arith, sup.there, length-drop u.near nr)

        -- the stage with the rest of its samples
        stage_is : (k : ℕ) → count - passed ≡ k → place_at s taken ≡ record { number = n + 1; stage = midway n (later first passed) k; session = with_scan sess' left.scan }
        stage_is k q =
            let one : n + 1 - 1 ≡ n = omega arith in
            ap (λ (z : ℕ). record { number = n + 1; stage = midway z (later first passed) (count - passed); session = with_scan sess' left.scan }) one
            ∙ ap (λ (z : ℕ). record { number = n + 1; stage = midway n (later first passed) z; session = with_scan sess' left.scan }) q

        -- it has none
        no_sample : count ≡ 0 → from whole v inner B ≡ answered h s (lending b e l') whole taken
        unfolding ran samples_in
        no_sample z =
            let p : passed ≡ 0 = omega (arith, most, z) in
            let nothing : bytes_of h.form passed ≡ 0 = ap (bytes_of h.form) p ∙ mul-zero (width h.form) in
            let size : u.near ≡ u.near + bytes_of h.form passed = omega (arith, nothing) in
            let same : ◌≡◌ {A = Run} left (record { scan = scan_at s at; levels = l; passed = 0 }) = is ∙ ap (λ (k : ℕ). ran (scan_at s at) l (samples_in h.form (drop u.near nr) k) first) z in
            place_alike whole v inner (record { number = n + 1; stage = Events; session = sess' }) B (ap (λ (k : ℕ). record { number = n + 1; stage = midway n first k; session = sess' }) z)
            ∙ ap (λ (r : Run). from whole v (record { number = n + 1; stage = Events; session = with_scan sess' r.scan }) (with_levels B r.levels)) (sym same)
            ∙ place_alike whole v (record { number = n + 1; stage = Events; session = with_scan sess' left.scan }) (place_at s taken) (lending b e l') (sym (stage_is 0 (omega (arith, z))))
            ∙ used_alike whole v taken.bytes (place_at s taken) (lending b e l') (three (u.events + 16) u.far u.near (u.events + 16) u.far (u.near + bytes_of h.form passed) refl refl size)

        module _ (some : count ≡ 0 → ⊥) where
          inner_is : inner ≡ record { number = n + 1; stage = Midway n first count; session = sess' }
          inner_is = ap (λ (z : Stage). record { number = n + 1; stage = z; session = sess' }) (sym (midway_some n first count some))

          -- all pass
          all_taken : passed ≡ count → from whole v inner B ≡ answered h s (lending b e l') whole taken
          all_taken q =
              let size : u.near + bytes_of h.form count ≡ u.near + bytes_of h.form passed = ap (λ (k : ℕ). u.near + bytes_of h.form k) (sym q) in
              let r = ran (scan_at s at) l ys first in
              place_alike whole v inner (record { number = n + 1; stage = Midway n first count; session = sess' }) B inner_is
              ∙ onward h whole (record { number = n + 1; stage = Midway n first count; session = sess' }) B v (next (n + 1) Events (with_scan sess' r.scan) (with_levels B r.levels) Silent (bytes_used 0 0 (bytes_of h.form count)))
              (all_pass h (n + 1) n first sess' B (beyond v whole) fits count sup.few there (sym (ap (λ (z : Run). z.passed) is) ∙ q)) refl
              ∙ used_alike whole (sum v (bytes_used 0 0 (bytes_of h.form count))) taken.bytes (record { number = n + 1; stage = Events; session = with_scan sess' r.scan }) (with_levels B r.levels)
              (three (u.events + 16 + 0) (u.far + 0) (u.near + bytes_of h.form count) (u.events + 16) u.far (u.near + bytes_of h.form passed) (add-zero (u.events + 16)) (add-zero u.far) size)
              ∙ ap (λ (z : Run). from whole taken.bytes (record { number = n + 1; stage = Events; session = with_scan sess' z.scan }) (with_levels B z.levels)) (sym is)
              ∙ place_alike whole taken.bytes (record { number = n + 1; stage = Events; session = with_scan sess' left.scan }) (place_at s taken) (lending b e l') (sym (stage_is 0 (omega (arith, q))))

          -- some are left
          part_taken : (k : ℕ) → passed + suc k ≡ count → from whole v inner B ≡ answered h s (lending b e l') whole taken
          part_taken k q =
              let w = passed + suc k in
              let r = ran (scan_at s at) l (samples_in h.form (drop u.near nr) w) first in
              let is' : left ≡ r = is ∙ ap (λ (z : ℕ). ran (scan_at s at) l (samples_in h.form (drop u.near nr) z) first) (sym q) in
              let held : bytes_of h.form w ≤ length (drop u.near nr) = subst (λ (z : ℕ). bytes_of h.form z ≤ length (drop u.near nr)) (sym q) there in
              let new : Place = record { number = n + 1; stage = Midway n (later first passed) (suc k); session = with_scan sess' r.scan } in
              let p = bytes_used 0 0 (bytes_of h.form passed) in
              place_alike whole v inner (record { number = n + 1; stage = Midway n first w; session = sess' }) B (inner_is ∙ ap (λ (z : ℕ). record { number = n + 1; stage = Midway n first z; session = sess' }) (sym q))
              ∙ ap (on_top v) (some_pass h (n + 1) n first sess' B (beyond v whole) fits passed (suc k) (omega (arith, q, sup.few)) held (sym (ap (λ (z : Run). z.passed) is')))
              ∙ looping.add_twice v p _
              ∙ ap (λ (g : Hand). on_top (sum v p) (next_line h new (with_levels B r.levels) g)) (beyond_twice v p whole)
              ∙ used_alike whole (sum v p) taken.bytes new (with_levels B r.levels) (three (u.events + 16 + 0) (u.far + 0) (u.near + bytes_of h.form passed) (u.events + 16) u.far (u.near + bytes_of h.form passed) (add-zero (u.events + 16)) (add-zero u.far) refl)
              ∙ ap (λ (z : Run). from whole taken.bytes (record { number = n + 1; stage = Midway n (later first passed) (suc k); session = with_scan sess' z.scan }) (with_levels B z.levels)) (sym is')
              ∙ place_alike whole taken.bytes (record { number = n + 1; stage = Midway n (later first passed) (suc k); session = with_scan sess' left.scan }) (place_at s taken) (lending b e l') (sym (stage_is (suc k) (omega (arith, q))))

        near_by : (k : ℕ) → passed + k ≡ count → (j : ℕ) → count ≡ j → from whole v inner B ≡ answered h s (lending b e l') whole taken
        near_by k q zero z = no_sample z
        near_by zero q (suc j) z = all_taken (λ y. omega (arith, y, z)) (omega (arith, q))
        near_by (suc k) q (suc j) z = part_taken (λ y. omega (arith, y, z)) k q

        near_same : answered h s B whole at ≡ answered h s (lending b e l') whole taken
        near_same = enters ∙ near_by (count - passed) (omega (arith, most)) count refl

      pub near_plays : (passed ≡ count → finite m.sum ≡ true → (first_refusals (scan_at s taken) true ≡ 0) × (full s.scan.geometry m ≡ false)) → Plays h s ev fr nr at e l taken e l'
      near_plays judged =
          let there = bytes_mono h.form passed count most in
          record {
            follows = record {
              same = near_same;
              inside = record { events = there_16 (event.Near count first) bef; far = bef.inside.far; near = omega (arith, there, sup.there) };
              forward = record { least = omega arith; most = λ m. omega (arith, bef.some); still = λ q. absurd (omega (arith, q)) };
              calm = λ t.
                  let w = both_true (eqb (count - passed) 0) (finite m.sum) t in
                  let none = eqb-true (count - passed) 0 w.0 in
                  let j = judged (omega (arith, most, none)) w.1 in
                  record { none = none; judged = j.0; unfilled = j.1 };
              few = omega (arith, sup.few);
              behind = λ m. omega arith;
            };
            onward = λ t. omega arith;
          }
