-- One turn that says nothing, from where the loop stands; and a near event whose first samples were taken before: what is left of it answers the same.
use Rattle.std.specs.Prelude.{Some}
use Prim.Native.Nat.{ℕ, ◌+◌, ◌-◌, ◌^◌, ◌≤◌, ◌<◌, min}
use mathlib.Core.Path.{◌≡◌, refl, sym, ap, ◌∙◌, subst}
use mathlib.Core.Bool.{Bool, true, false, not}
use mathlib.Core.List.{List, []}
use native.Mathlib.Omega.{arith}
use lib.Dec.{ltb}
use lib.Ieee.{Float}
use lib.ListN.{length, take, drop, length-drop, drop_of_length-le}
use lib.Seq.{take-length}
use borrow.Author.Tests.{lt-ltb, le-ltb}
use Rattle.answers.specs.Pick.{pick, both, pick_true, pick_false}
use Rattle.scan.specs.State.{Buffers}
use Rattle.scan.specs.Steps.{with_levels}
use Rattle.scan.specs.declared.Scan.{Scan}
use Rattle.scan_runs.specs.Runs.{Run, ran}
use Rattle.recording.specs.Recording.{event_at}
use Rattle.recording.specs.Samples.{bytes_of, samples_in}
use Rattle.recording.specs.declared.Form.{Form}
use Rattle.recording.specs.declared.Form.TheVariants.{Plain, Floats, Shorts}
use Rattle.recording.specs.declared.Header.{Header}
use Rattle.recording.specs.declared.Event.{Event}
use Rattle.recording.proofs.Forms.{bytes_mono}
use Rattle.replay.specs.Events.{with_scan}
use Rattle.replay.specs.declared.Session.{Session}
use Rattle.replay.proofs.Passing.{later, passed_within}
use Rattle.replay_near.specs.Telling.{Holds, filled}
use Rattle.replay_near.proofs.Decoding.{first_filled}
use Rattle.replay_stream.specs.Stream.{Hand, bytes_used, beyond, Next, Cut, next, told, near_cut, midway, near_turn, entry_turn, turn, silent, on_top, next_line}
use Rattle.replay_stream.specs.declared.Stage.TheVariants.{Events, Midway}
use Rattle.replay_stream.specs.declared.Answer.TheVariants.{Silent}
use Rattle.replay_stream.specs.declared.Place.{Place}
use Rattle.replay_stream.specs.declared.Bytes.{Bytes}
use Rattle.replay_stream.proofs.Cutting.{cuts}
use Rattle.replay_stream.proofs.Fronts.{samples_length, samples_behind}
use Rattle.replay_stream.proofs.Looping as looping
use Rattle.replay_stream.proofs.Running.{run_cut}
use Rattle.replay_stream.proofs.Turning.{good_whole, beyond_twice}

-- the bytes from i on, as the code hands them
pub rest_on : (s : List ℕ) (i : ℕ) → take (length s - i) (drop i s) ≡ drop i s
rest_on s i = ap (λ (n : ℕ). take n (drop i s)) (sym (length-drop i s)) ∙ take-length (drop i s)

-- room for samples stays enough
pub still_holds : (s : List ℕ) (i : ℕ) (x x₀ : List Float) → length x ≡ length x₀ → Holds s x₀ → Holds (take (length s - i) (drop i s)) x
still_holds s i x x₀ e h = omega (arith, ap length (rest_on s i), length-drop i s, e, h)

-- samples decoded from there, read again
pub decoded_on : (form : Form) (s : List ℕ) (i n : ℕ) (samples out : List Float) → out ≡ filled form (take (length s - i) (drop i s)) n samples → take (n - 0) (drop 0 out) ≡ samples_in form (drop i s) n
decoded_on form s i n samples out q = first_filled form _ n samples out q ∙ ap (λ (t : List ℕ). samples_in form t n) (rest_on s i)

-- no more pass than there are
pub passed_most : (form : Form) (s : List ℕ) (n : ℕ) (scan : Scan) (levels : List Float) (first : ℕ) (r : Run) → r ≡ ran scan levels (samples_in form s n) first → r.passed ≤ n
passed_most form s n scan levels first r q = omega (arith, ap (λ (z : Run). z.passed) q, passed_within (samples_in form s n) scan levels first, samples_length form s n)

abbrev pub sum : Bytes → Bytes → Bytes
sum u v = bytes_used (u.events + v.events) (u.far + v.far) (u.near + v.near)

abbrev at : ℕ → Session → Place
at n s = record { number = n; stage = Events; session = s }

abbrev within : ℕ → ℕ → ℕ → ℕ → Session → Place
within n e index left s = record { number = n; stage = Midway e index left; session = s }

-- ---- a turn that says nothing

module _ (h : Header) (hand : Hand) (p : Place) (b : Buffers) (u : Bytes) where
  pub onward : (t : Next) → turn h p b (beyond u hand) ≡ t → t.answer ≡ Silent
      → on_top u (next_line h p b (beyond u hand)) ≡ on_top (sum u t.used) (next_line h t.place t.buffers (beyond (sum u t.used) hand))
  onward t q z =
      subst (λ (x : Next). on_top u (next_line h p b (beyond u hand)) ≡ on_top (sum u x.used) (next_line h x.place x.buffers (beyond (sum u x.used) hand))) q
      (looping.loop_again h (on_top u (next_line h p b (beyond u hand))) hand p b u refl (ap (λ (x : Next). silent x.answer) q ∙ ap silent z))

-- ---- the next entry

never_short : (n : ℕ) (ended : Bool) (m : ℕ) → n ≤ m → both (not ended) (ltb m n) ≡ false
unfolding pick
never_short n true m l = refl
never_short n false m l = le-ltb m n l

module _ (h : Header) (n : ℕ) (s : Session) (b : Buffers) (hand : Hand) (k : Event) (some : n < h.events) (good : event_at hand.events.bytes 0 ≡ Some k) where
  pub entry_turn_lem : turn h (at n s) b hand ≡ entry_turn h n s b hand (Some k)
  unfolding turn
  entry_turn_lem =
      pick_true _ _ _ (lt-ltb n h.events some)
      ∙ pick_false _ _ _ (never_short 16 hand.events.ended (length hand.events.bytes) (good_whole hand.events.bytes k good))
      ∙ ap (entry_turn h n s b hand) good

-- ---- the samples of a near event

bytes_apart : (form : Form) (p left c : ℕ) → c ≤ left → bytes_of form p + bytes_of form (left - c) ≡ bytes_of form (p + left - c)
bytes_apart Plain p left c l = omega arith
bytes_apart Floats p left c l = omega arith
bytes_apart Shorts p left c l = omega arith

module _ (h : Header) (n e index left : ℕ) (s : Session) (b : Buffers) (hand : Hand) (few : left ≤ 4096) (there : bytes_of h.form left ≤ length hand.near.bytes) where
  pub midway_turn : turn h (within n e index left s) b hand ≡ near_turn h.form n e index left s b hand
  unfolding turn
  midway_turn =
      let most = bytes_mono h.form left 4096 few in
      pick_false _ _ _ (le-ltb (min (length hand.near.bytes) (bytes_of h.form 4096)) (bytes_of h.form left) (omega (arith, there, most)))

-- what a turn over the rest of the samples gives
abbrev gave : Form → ℕ → ℕ → ℕ → Cut → Next
gave form n e left c = next n (midway e c.index (length c.left)) c.session c.buffers (told c.lines) (bytes_used 0 0 (bytes_of form (left - length c.left)))

module _ (h : Header) (n e index : ℕ) (s : Session) (b : Buffers) (hand : Hand) (fits : index < 2 ^ 64) where
  abbrev near : List ℕ
  near = hand.near.bytes

  -- all samples pass
  module _ (count : ℕ) (few : count ≤ 4096) (there : bytes_of h.form count ≤ length near) (all : (ran s.scan b.levels (samples_in h.form near count) index).passed ≡ count) where
    pub all_pass : let r = ran s.scan b.levels (samples_in h.form near count) index in
        turn h (within n e index count s) b hand ≡ next n Events (with_scan s r.scan) (with_levels b r.levels) Silent (bytes_used 0 0 (bytes_of h.form count))
    unfolding near_turn near_cut
    all_pass =
        let xs = samples_in h.form near count in
        let r = ran s.scan b.levels xs index in
        let none : drop r.passed xs ≡ [] = drop_of_length-le xs {i = r.passed} (omega (arith, all, samples_length h.form near count)) in
        let whole : count - 0 ≡ count = omega arith in
        midway_turn h n e index count s b hand few there
        ∙ ap (gave h.form n e count) (run_cut e xs s b index fits ∙ ap (λ (ys : List Float). near_cut e (with_scan s r.scan) (with_levels b r.levels) ys (later index r.passed)) none)
        ∙ ap (λ (k : ℕ). next n Events (with_scan s r.scan) (with_levels b r.levels) Silent (bytes_used 0 0 (bytes_of h.form k))) whole

  -- so many pass, and some are left: the turn over those gives what the turn over all gives
  module _ (p left : ℕ) (few : p + left ≤ 4096) (there : bytes_of h.form (p + left) ≤ length near) (is : (ran s.scan b.levels (samples_in h.form near (p + left)) index).passed ≡ p) where
    abbrev passed : Bytes
    passed = bytes_used 0 0 (bytes_of h.form p)

    abbrev s' : Session
    s' = with_scan s (ran s.scan b.levels (samples_in h.form near (p + left)) index).scan

    abbrev b' : Buffers
    b' = with_levels b (ran s.scan b.levels (samples_in h.form near (p + left)) index).levels

    abbrev old : Place
    old = within n e index (p + left) s

    abbrev new : Place
    new = within n e (later index p) left s'

    same_turn : turn h old b hand ≡ on_top passed (turn h new b' (beyond passed hand))
    unfolding near_turn
    same_turn =
        let form = h.form in
        let xs = samples_in form near (p + left) in
        let ys = samples_in form (drop (bytes_of form p) near) left in
        let c = near_cut e s' b' ys (later index p) in
        let r = ran s.scan b.levels xs index in
        let size : length (drop (bytes_of form p) near) ≡ length near - bytes_of form p = length-drop (bytes_of form p) near in
        let still : bytes_of form left ≤ length (drop (bytes_of form p) near) = omega (arith, there, size) in
        let cut-is : near_cut e s b xs index ≡ c =
        run_cut e xs s b index fits
        ∙ ap (λ (k : ℕ). near_cut e s' b' (drop k xs) (later index k)) is
        ∙ ap (λ (zs : List Float). near_cut e s' b' zs (later index p)) (samples_behind form near p left) in
        let inside : length c.left ≤ left = omega (arith, (cuts e s' b' ys (later index p)).count, samples_length form (drop (bytes_of form p) near) left) in
        let count : bytes_of form (p + left - length c.left) ≡ bytes_of form p + bytes_of form (left - length c.left) = sym (bytes_apart form p left (length c.left) inside) in
        midway_turn h n e index (p + left) s b hand few there
        ∙ ap (gave form n e (p + left)) cut-is
        ∙ ap (λ (k : ℕ). next n (midway e c.index (length c.left)) c.session c.buffers (told c.lines) (bytes_used 0 0 k)) count
        ∙ ap (on_top passed) (sym (midway_turn h n e (later index p) left s' b' (beyond passed hand) (omega arith) still))

    pub some_pass : next_line h old b hand ≡ on_top passed (next_line h new b' (beyond passed hand))
    some_pass = go (silent (turn h new b' (beyond passed hand)).answer) refl
      where
        t : Next
        t = turn h new b' (beyond passed hand)

        answers : silent (turn h old b hand).answer ≡ silent t.answer
        answers = ap (λ (x : Next). silent x.answer) same_turn

        go : (z : Bool) → silent t.answer ≡ z → next_line h old b hand ≡ on_top passed (next_line h new b' (beyond passed hand))
        go true z =
            looping.unroll h old b hand (answers ∙ z)
            ∙ ap (λ (x : Next). on_top x.used (next_line h x.place x.buffers (beyond x.used hand))) same_turn
            ∙ ap (λ (g : Hand). on_top (sum passed t.used) (next_line h t.place t.buffers g)) (sym (beyond_twice passed t.used hand))
            ∙ sym (looping.add_twice passed t.used _)
            ∙ ap (on_top passed) (sym (looping.unroll h new b' (beyond passed hand) z))
        go false z = looping.settles h old b hand (answers ∙ z) ∙ same_turn ∙ ap (on_top passed) (sym (looping.settles h new b' (beyond passed hand) z))
