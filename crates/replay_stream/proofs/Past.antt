-- Bytes past what the header announces are never read: the log is that of the announced bytes.
use Rattle.std.specs.Prelude.{Option, Some, None}
use Prim.Native.Nat.{ℕ, zero, suc, ◌+◌, ◌*◌, ◌≤◌, ◌<◌}
use mathlib.Core.Path.{◌≡◌, refl, sym, ap, ◌∙◌}
use mathlib.Core.Bool.{Bool, true, false}
use mathlib.Core.List.{List, [], ◌∷◌, ◌++◌}
use native.Mathlib.Omega.{arith}
use lib.Dec.{leb}
use lib.Ieee.{Float}
use lib.ListN.{length, drop, length-append, length-drop}
use lib.Seq.{drop-append-le}
use borrow.Author.Tests.{le-leb, leb-true}
use Rattle.answers.specs.Pick.{pick, both}
use Rattle.answers.proofs.Passed.{both_true}
use Rattle.scan.specs.State.{Buffers}
use Rattle.scan.specs.Bins.{geometry_of}
use Rattle.log_lines.specs.declared.Line.{Line}
use Rattle.log_lines.specs.declared.Line.TheVariants as line
use Rattle.recording.specs.Recording.{offset_of, opened, header_length}
use Rattle.recording.specs.Samples.{bytes_of, samples_in, samples_of, part, supplied, used_up, admitted}
use Rattle.recording.specs.declared.Form.{Form}
use Rattle.recording.specs.declared.Header.{Header}
use Rattle.recording.specs.declared.Used.{Used}
use Rattle.recording.specs.declared.Event.{Event}
use Rattle.recording.specs.declared.Event.TheVariants as event
use Rattle.recording.proofs.Theorems.{header_within, event_within, samples_within}
use Rattle.recording.proofs.Forms.{opened_length, bytes_mono}
use Rattle.replay.specs.Events.{Play, after_admission, stepped}
use Rattle.replay.specs.Log.{Inputs, inputs, all_samples, event_number, samples_for, step_at, lines_from, started, log_of, new_session, clear_buffers}
use Rattle.replay.specs.declared.Session.{Session}
use Rattle.replay_stream.specs.Hosts.{Streams, Announced}
use Rattle.replay_stream.proofs.Fronts.{part_is}
use Rattle.replay_stream.proofs.Whole.{streamed_log}

-- samples within the total are there, with more bytes behind them or not
supply_alike : (form : Form) (k total : ℕ) (s more : List ℕ) → bytes_of form total ≤ length s → supplied form k total (length (s ++ more)) ≡ supplied form k total (length s)
unfolding pick
supply_alike form k total s more m = go (leb k total) refl
  where
    go : (t : Bool) → leb k total ≡ t → both t (leb (bytes_of form k) (length (s ++ more))) ≡ both t (leb (bytes_of form k) (length s))
    go false e = refl
    go true e = le-leb (bytes_of form k) (length (s ++ more)) (omega (arith, bytes_mono form k total (leb-true k total e), length-append s more)) ∙ sym (le-leb (bytes_of form k) (length s) (omega (arith, bytes_mono form k total (leb-true k total e))))

part_alike : (form : Form) (s more : List ℕ) (u c : ℕ) → bytes_of form (u + c) ≤ length s → part (all_samples form (s ++ more)) u c ≡ part (all_samples form s) u c
part_alike form s more u c m =
    part_is form (s ++ more) u c (omega (arith, length-append s more))
    ∙ ap (λ (l : List ℕ). samples_in form l c) (drop-append-le (bytes_of form u) s more (omega arith))
    ∙ samples_within form (drop (bytes_of form u) s) more c (omega (arith, length-drop (bytes_of form u) s))
    ∙ sym (part_is form s u c m)

-- an event that is not admitted reads no sample
admits_part : (e : ℕ) (s : Session) (b : Buffers) (k : Event) (xs ys : List Float) (v : Used) (t : Bool) → (t ≡ true → xs ≡ ys)
    → after_admission e s b k xs (pick t (Some v) None) ≡ after_admission e s b k ys (pick t (Some v) None)
unfolding pick
admits_part e s b k xs ys v true q = ap (λ (zs : List Float). after_admission e s b k zs (Some v)) (q refl)
admits_part e s b k xs ys v false q = refl

module _ (h : Header) (e f n x y z : List ℕ) (a : Announced h e f n) where
  abbrev more : Inputs
  more = inputs h.form (e ++ x) (f ++ y) (n ++ z)

  abbrev these : Inputs
  these = inputs h.form e f n

  module _ (number : ℕ) (s : Session) (b : Buffers) where
    abbrev plays : Inputs → Event → Play
    plays i k = after_admission number s b k (samples_for i s.used (Some k)) (admitted h i.lengths s.used k)

    event_alike : (k : Event) → plays more k ≡ plays these k
    unfolding admitted samples_of
    event_alike (event.Far count) =
        let u = s.used in
        let xs = part (all_samples h.form (f ++ y)) u.far count in
        let v = used_up (u.far + count) u.near in
        let test = supplied h.form (u.far + count) h.far (length f) in
        ap (λ (t : Bool). after_admission number s b (event.Far count) xs (pick t (Some v) None)) (supply_alike h.form (u.far + count) h.far f y a.fars)
        ∙ admits_part number s b (event.Far count) xs (part (all_samples h.form f) u.far count) v test (λ t. part_alike h.form f y u.far count (leb-true _ _ (both_true _ _ t).1))
    event_alike (event.Near count first) =
        let u = s.used in
        let xs = part (all_samples h.form (n ++ z)) u.near count in
        let v = used_up u.far (u.near + count) in
        let test = supplied h.form (u.near + count) h.near (length n) in
        ap (λ (t : Bool). after_admission number s b (event.Near count first) xs (pick t (Some v) None)) (supply_alike h.form (u.near + count) h.near n z a.nears)
        ∙ admits_part number s b (event.Near count first) xs (part (all_samples h.form n) u.near count) v test (λ t. part_alike h.form n z u.near count (leb-true _ _ (both_true _ _ t).1))
    event_alike event.Rearm = refl
    event_alike event.DiscardNear = refl
    event_alike event.Unconfident = refl
    event_alike (event.Interior alignment delay) = refl
    event_alike (event.Edge alignment delay) = refl
    event_alike event.Discontinuity = refl

    entry_alike : (k : Option Event) → stepped h more.lengths number s b k (samples_for more s.used k) ≡ stepped h these.lengths number s b k (samples_for these s.used k)
    unfolding stepped
    entry_alike None = refl
    entry_alike (Some k) = event_alike k

    step_alike : number < h.events → step_at more h number s b ≡ step_at these h number s b
    step_alike m =
        ap (λ (k : Option Event). stepped h more.lengths number s b k (samples_for more s.used k)) (event_within e x (offset_of h.form + 16 * number) (omega (arith, a.entries)))
        ∙ entry_alike (event_number h.form e number)

  lines_alike : (left number : ℕ) (s : Session) (b : Buffers) → number + left ≤ h.events → lines_from more h left number s b ≡ lines_from these h left number s b
  unfolding lines_from
  lines_alike zero number s b m = refl
  lines_alike (suc left) number s b m =
      let p = step_at these h number s b in
      ap (λ (q : Play). q.lines ++ pick q.ends [] (lines_from more h left (number + 1) q.session q.buffers)) (step_alike number s b (omega arith))
      ∙ ap (λ (ls : List Line). p.lines ++ pick p.ends [] ls) (lines_alike left (number + 1) p.session p.buffers (omega arith))

-- a good header: nothing behind what it announces counts
pub past_unread : (h : Header) (e f n x y z : List ℕ) → opened e ≡ Some h → Announced h e f n → log_of (e ++ x) (f ++ y) (n ++ z) ≡ log_of e f n
unfolding log_of
past_unread h e f n x y z q a =
    ap (started (e ++ x) (f ++ y) (n ++ z)) (header_within e x (omega (arith, a.entries, opened_length e h q)) ∙ q)
    ∙ ap (λ (ls : List Line). line.Replay h.rate h.ceiling ∷ ls)
    (lines_alike h e f n x y z a h.events 0 (new_session h.rate h.ceiling) (clear_buffers (geometry_of h.rate h.ceiling)) (omega arith))
    ∙ ap (started e f n) (sym q)

-- a bad one: nothing behind its own bytes does
pub past_bad : (e f n x y z : List ℕ) → header_length e ≤ length e → opened e ≡ None → log_of (e ++ x) (f ++ y) (n ++ z) ≡ log_of e f n
unfolding log_of
past_bad e f n x y z m q = ap (started (e ++ x) (f ++ y) (n ++ z)) (header_within e x m ∙ q) ∙ ap (started e f n) (sym q)

-- So a host may stop at the announced ends and call them the ends of its inputs: what it gets is the log of all bytes.
pub announced_log : (h : Header) (e f n x y z : List ℕ) (ls : List Line) → opened e ≡ Some h → Announced h e f n → Streams e f n ls → ls ≡ log_of (e ++ x) (f ++ y) (n ++ z)
announced_log h e f n x y z ls q a host = streamed_log e f n ls host ∙ sym (past_unread h e f n x y z q a)
