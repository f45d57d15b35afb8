-- `scan_push::near::refusal` meets its contract: the refusals in their order.
use Prim.Native.Nat.{ℕ}
use mathlib.Core.Path.{◌≡◌, refl, sym, ap, ◌∙◌}
use mathlib.Core.Bool.{not}
use lib.Dec.{eqb}
use lib.ListN.{length}
use lib.Ieee.Scale.{finite}
use borrow.Author.Tests.{lt-ltb, le-ltb, eq-eqb, ne_eqb}
use Rattle.answers.specs.Pick.{pick, either}
use Rattle.answers.specs.Refusals.{before, require, none, frame_waits}
use Rattle.scan.specs.Bins.{near_len}
use Rattle.scan.specs.State.{first_refusals, finished, full, due}
use Rattle.scan.specs.Calls.{near_refusal}
use Rattle.scan.specs.Blocks.{dropped, held_at}
use Rattle.scan.specs.declared.Geometry.{Geometry}
use Rattle.scan.specs.declared.Near.{Near}
use Rattle.scan_calls.proofs.Chains.{no, yes, refuses, passes, earlier, later}
use Rattle.scan_calls.proofs.Passing.{pass}
use Rattle.scan_push.proofs.near.refusal.Goals as goal
use Rattle.scan_push.proofs.near.refusal.Goals.{After-first_refusals-n, After-readable, Else-finished, Else-near-g}

-- 1 to 3
first : (c : After-first_refusals-n) → let a = c.args in c.first_refusals-n.result ≡ first_refusals a.scan (eqb (length a.levels.now) (near_len (due a.scan)))
first c =
    let a = c.args in
    c.first_refusals-n.ensures ∙ ap (λ (g : Geometry). first_refusals a.scan (eqb (length a.levels.now) g.frame)) c.geometry_of-due.ensures.is

-- past 1 to 3, of a scan that is not finished
past : (c : Else-finished) {rest x : ℕ} → x ≡ rest
    → let a = c.args in x ≡ before (first_refusals a.scan (eqb (length a.levels.now) (near_len (due a.scan)))) (pick (finished a.scan.verdict) none rest)
past c e = later (first (record { before = c.before.before.before.before; type_inv = record { levels = c.type_inv.levels } })) c.if-n-ne0.false (no c.finished.ensures none c.if-finished.false e)

-- past 6
unfilled : (c : Else-near-g) {rest x : ℕ} → x ≡ rest
    → let s = c.args.scan in let levels = c.args.levels.now in x ≡ before (first_refusals s (eqb (length levels) (near_len (due s)))) (pick (finished s.verdict) none (require (not (full s.geometry s.near)) frame_waits rest))
unfilled c e = past (record { before = c.before.before.before.before; type_inv = record { levels = c.type_inv.levels } }) (yes refl _ (ap not (ne_eqb _ _ c.if-near-g.false)) e)

-- the sample is read as the near side that it finds has it
reads : (c : After-readable)
    → let a = c.args in c.readable.result ≡ either (dropped a.scan.geometry (held_at a.scan.near a.index) a.index) (finite a.sample)
reads c =
    let a = c.args in
    c.readable.ensures ∙ ap (λ (m : Near). either (dropped a.scan.geometry m a.index) (finite a.sample)) c.held_at.ensures

pub returns-then-n-ne0 : goal.returns-then-n-ne0
unfolding near_refusal
returns-then-n-ne0 c = earlier (first (record { before = c.before.before; type_inv = record { levels = c.type_inv.levels } })) _ c.if-n-ne0.true

pub returns-then-finished : goal.returns-then-finished
unfolding near_refusal
returns-then-finished c = later (first (record { before = c.before.before.before.before; type_inv = record { levels = c.type_inv.levels } })) c.if-n-ne0.false (yes c.finished.ensures _ c.if-finished.true refl)

pub returns-then-near-g : goal.returns-then-near-g
unfolding near_refusal
returns-then-near-g c = past (record { before = c.before.before.before.before; type_inv = record { levels = c.type_inv.levels } }) (no refl _ (ap not (eq-eqb _ _ c.if-near-g.true)) refl)

pub readable-requires : goal.readable-requires
readable-requires c =
    (pass _ _ (sym (first (record { before = c.before.before.before.before.before.before.before.before.before; type_inv = record { levels = c.type_inv.levels } })) ∙ c.if-n-ne0.false)).bounds.some_decimation

pub returns-then-index-ge-LIMIT : goal.returns-then-index-ge-LIMIT
unfolding near_refusal
returns-then-index-ge-LIMIT c = unfilled (record { before = c.before.before; type_inv = record { levels = c.type_inv.levels } }) (no refl _ (le-ltb _ _ c.if-index-ge-LIMIT.true) refl)

pub returns-then-not-readable : goal.returns-then-not-readable
unfolding near_refusal
returns-then-not-readable c = unfilled (record { before = c.before.before.before.before.before; type_inv = record { levels = c.type_inv.levels } }) (yes refl _ (lt-ltb _ _ c.if-index-ge-LIMIT.false) (refuses (reads (record { before = c.before.before; type_inv = record { levels = c.type_inv.levels } })) 4 _ c.if-not-readable.true-raw))

pub returns : goal.returns
unfolding near_refusal
returns c = unfilled (record { before = c.before.before.before.before.before; type_inv = record { levels = c.type_inv.levels } }) (yes refl _ (lt-ltb _ _ c.if-index-ge-LIMIT.false) (passes (reads (record { before = c.before.before; type_inv = record { levels = c.type_inv.levels } })) 4 c.if-not-readable.false-raw refl))
