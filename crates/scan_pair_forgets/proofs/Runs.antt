-- A run of near samples on a channel is so many single pushes of that channel: they leave what the run left.
use Prim.Native.Nat.{ℕ, ◌+◌}
use mathlib.Core.Path.{◌≡◌, refl, sym, ap, ◌∙◌}
use mathlib.Core.List.{List, [], ◌∷◌}
use lib.Dec.{T, eqb}
use lib.ListN.{take}
use lib.Ieee.{Float, binary64, fits}
use borrow.Author.Tests.{eqb-true, eqb-false}
use Rattle.answers.specs.Pick.{pick_case}
use Rattle.scan.specs.Bins.{full_slack}
use Rattle.scan.specs.State.{World}
use Rattle.scan.specs.Steps.{Deed, deed, called, with_levels}
use Rattle.scan.specs.Steps as base
use Rattle.scan.specs.Streams.{AllF32, after}
use Rattle.scan_handover.specs.Handover.{NearRun, run_refusal, handed}
use Rattle.scan_handover.specs.Singles.{taken_in}
use Rattle.scan_handover.specs.InStreams.{as_items, after_run}
use Rattle.scan_handover.proofs.Calls.{not_handed}
use Rattle.scan_handover.proofs.InStreams.{run_in_stream, refused_in_stream}
use Rattle.scan_pair.specs.State.{Side, first, second, Named, channel, unknown, named, PairWorld, seen}
use Rattle.scan_pair.specs.Calls.{pair_near}
use Rattle.scan_pair.specs.Steps.{near, PairCall, on, own_called, pair_called, lent_to, handed_back}
use Rattle.scan_pair.proofs.Channels.{leaves, by_its_own}
use Rattle.scan_pair_calls.specs.Runs.{pair_handed}
use Rattle.scan_pair_calls.proofs.push_near_run.Kinds as push-near-run-kinds
use Rattle.scan_pair_calls.proofs.push_near_run.Reads as push-near-run-reads
use Rattle.scan_forgets.specs.Happened.{Return}
use Rattle.scan_pair_forgets.specs.Happened.{pair_world, singly_on}

-- the world after calls in turn
unfoldable pub after_calls : PairWorld → List PairCall → PairWorld
after_calls w [] = w
after_calls w (c ∷ calls) = after_calls (pair_called full_slack w c).world calls

leaves_same : (w : PairWorld) (d : Side) → leaves w d (seen w d) ≡ w
leaves_same w first = refl
leaves_same w second = refl

leaves_twice : (w : PairWorld) (d : Side) (u v : World) → leaves (leaves w d u) d v ≡ leaves w d v
leaves_twice w first u v = refl
leaves_twice w second u v = refl

-- one near sample
near_leaves : (w : PairWorld) (d : Side) (x : Float) (index : ℕ) → (own_called full_slack w (channel d) (near x index)).world ≡ leaves w d (called full_slack (seen w d) (deed (base.near x index))).world
unfolding own_called pair_near called
near_leaves w d x index = refl

near_seen : (w : PairWorld) (d : Side) (x : Float) (index : ℕ) → seen (own_called full_slack w (channel d) (near x index)).world d ≡ (called full_slack (seen w d) (deed (base.near x index))).world
near_seen w d x index = (by_its_own full_slack w d (near x index)).world

-- and several
singles_leave : (c : ℕ) (d : Side) → named c ≡ channel d → (xs : List Float) (w : PairWorld) (index : ℕ) → after_calls w (singly_on c xs index) ≡ leaves w d (after full_slack (seen w d) (as_items xs index))
unfolding after_calls singly_on after
singles_leave c d e [] w index = sym (leaves_same w d)
singles_leave c d e (x ∷ xs) w index =
    let v = (called full_slack (seen w d) (deed (base.near x index))).world in
    let u = (pair_called full_slack w (on c (near x index))).world in
    let is : u ≡ leaves w d v = (unfold pair_called in ap (λ (n : Named). (own_called full_slack w n (near x index)).world) e ∙ near_leaves w d x index) in
    let sees : seen u d ≡ v = (unfold pair_called in ap (λ (n : Named). seen (own_called full_slack w n (near x index)).world d) e ∙ near_seen w d x index) in
    singles_leave c d e xs u (index + 1)
    ∙ (λ i. leaves (is i) d (after full_slack (sees i) (as_items xs (index + 1))))
    ∙ leaves_twice w d v (after full_slack v (as_items xs (index + 1)))

-- what a run leaves in the pair
abbrev run_world : PairWorld → Named → List Float → ℕ → PairWorld
run_world w n xs index =
    let q = pair_handed w.pair n (lent_to w.buffers n).levels xs index in
    pair_world q.handed.pair (handed_back w.buffers n (with_levels (lent_to w.buffers n) q.levels))

abbrev run_taken : PairWorld → Named → List Float → ℕ → ℕ
run_taken w n xs index = taken_in (pair_handed w.pair n (lent_to w.buffers n).levels xs index).handed.answer

module _ (w : PairWorld) (c : ℕ) (xs : List Float) (index : ℕ) (samples : AllF32 xs) (sums : (d : Side) → T (fits binary64 (seen w d).scan.near.sum)) where
  on_channel_lem : (d : Side) → named c ≡ channel d → after_calls w (singly_on c (take (run_taken w (channel d) xs index) xs) index) ≡ run_world w (channel d) xs index
  unfolding pair_handed
  on_channel_lem d e =
      let s = (seen w d).scan in
      let l = (seen w d).buffers.levels in
      let n = run_refusal s l xs index in
      let k = taken_in (handed s l xs index).handed.answer in
      let took : n ≡ 0 → after full_slack (seen w d) (as_items (take k xs) index) ≡ after_run (seen w d) xs index = λ z. (run_in_stream full_slack (seen w d) xs index (sums d) samples z).world in
      let none_taken : (n ≡ 0 → ⊥) → k ≡ 0 = λ z. ap (λ (q : NearRun). taken_in q.handed.answer) (sym (not_handed s l xs index refl z)) in
      let stays : (n ≡ 0 → ⊥) → after full_slack (seen w d) (as_items (take k xs) index) ≡ seen w d = λ z. ap (λ (m : ℕ). after full_slack (seen w d) (as_items (take m xs) index)) (none_taken z) ∙ (unfold after in refl) in
      let same : after full_slack (seen w d) (as_items (take k xs) index) ≡ after_run (seen w d) xs index =
      pick_case (λ (m : ℕ). after full_slack (seen w d) (as_items (take k xs) index) ≡ after_run (seen w d) xs index) (eqb n 0) 0 1 (λ t. took (eqb-true n 0 t))
      (λ t. stays (eqb-false n 0 t) ∙ sym (refused_in_stream (seen w d) xs index (eqb-false n 0 t))) in
      singles_leave c d e (take k xs) w index ∙ ap (leaves w d) same

  on_named : (n : Named) → named c ≡ n → after_calls w (singly_on c (take (run_taken w n xs index) xs) index) ≡ run_world w n xs index
  on_named (channel d) e = on_channel_lem d e
  on_named unknown e = (unfold pair_handed after_calls singly_on in refl)

pub run_steps : (f : Return 2 push-near-run-kinds.ps push-near-run-kinds.r push-near-run-reads.Post) (w : PairWorld) → w.pair ≡ f.given.0 → (lent_to w.buffers (named f.given.1.0)).levels ≡ f.given.1.1.0.now
    → AllF32 f.given.1.1.1.0.now → ((d : Side) → T (fits binary64 (seen w d).scan.near.sum))
    → after_calls w (singly_on f.given.1.0 (take (taken_in f.result.answer) f.given.1.1.1.0.now) f.given.1.1.1.1.0)
    ≡ pair_world f.result.pair (handed_back w.buffers (named f.given.1.0) (with_levels (lent_to w.buffers (named f.given.1.0)) f.left.1.1.0.now))
run_steps f w s e samples sums =
    let c = f.given.1.0 in
    let xs = f.given.1.1.1.0.now in
    let index = f.given.1.1.1.1.0 in
    let a = f.admitted.0 ∙ (λ i. (pair_handed (sym s i) (named c) (sym e i) xs index).handed) in
    let b = f.admitted.1 ∙ (λ i. (pair_handed (sym s i) (named c) (sym e i) xs index).levels) in
    (λ i. after_calls w (singly_on c (take (taken_in (a i).answer) xs) index))
    ∙ on_named w c xs index samples sums (named c) refl
    ∙ (λ i. pair_world (sym a i).pair (handed_back w.buffers (named c) (with_levels (lent_to w.buffers (named c)) (sym b i))))
