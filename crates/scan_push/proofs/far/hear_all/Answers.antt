-- `scan_push::far::hear_all` meets its contract: the invariant is `Going`.
use mathlib.Core.Path.{refl, sym, subst}
use Prim.Native.Nat.{ℕ}
use mathlib.Core.Path.{◌≡◌}
use lib.ListN.{length}
use native.Mathlib.Omega.{arith}
use Rattle.std.proofs.lemmas.Bool.Decides.{nat_tests}
use Rattle.scan_push.specs.Ready.{FarShaped}
use Rattle.scan_push.proofs.Pushing.{starts, ends}
use Rattle.scan_push.proofs.Groups.{run_ready, run_heard}
use Rattle.scan_push.proofs.far.hear_all.Goals as goal

pub loop-rest-init : goal.loop-rest-init
loop-rest-init c =
    (refl, starts c.args.slack c.args.g (record { far = c.args.far; envelope = c.args.envelope.now }) c.args.samples.now c.requires)

pub run_length-requires : goal.run_length-requires
run_length-requires c =
    let k = c.loop-rest.invariant.1.left in
    (k.placed.partial, k.bounds.decimation, grind (arith, nat_tests))

pub hear_run-f-requires : goal.hear_run-f-requires
hear_run-f-requires c =
    let a = c.args in
    let l = c.loop-rest in
    let s = c.split_at in
    record {
      all = run_ready a.slack a.g (record { far = a.far; envelope = a.envelope.now }) a.samples.now (record { far = l.f; envelope = l.envelope }) l.rest.now s.result.0.now s.result.1.now l.invariant.1 s.ensures.by_index.0;
      shaped = subst (λ (t : ℕ). FarShaped a.g l.f t) (sym s.ensures.front_len) c.run_length.ensures.shaped;
    }

pub loop-rest-smaller : goal.loop-rest-smaller
loop-rest-smaller c = omega (arith, c.run_length.ensures.some, c.split_at.ensures.back_len)

pub loop-rest-preserved : goal.loop-rest-preserved
loop-rest-preserved c =
    let a = c.args in
    let l = c.loop-rest in
    let s = c.split_at in
    let k = c.hear_run-f in (
      omega (arith, l.invariant.0, k.auto),
      run_heard a.slack a.g (record { far = a.far; envelope = a.envelope.now }) a.samples.now (record { far = l.f; envelope = l.envelope }) l.rest.now s.result.0.now s.result.1.now l.invariant.1 s.ensures.by_index.0 _ _ k.ensures.far k.ensures.envelope,
    )

pub shape_of-envelope : goal.shape_of-envelope
shape_of-envelope c = c.loop-rest.invariant.0

pub returns : goal.returns
returns c =
    let a = c.args in
    let l = c.loop-rest in
    let none : length l.rest.now ≡ 0 = grind (arith, nat_tests) in
    let e = ends a.slack a.g (record { far = a.far; envelope = a.envelope.now }) a.samples.now (record { far = l.f; envelope = l.envelope }) l.rest.now none l.invariant.1 in
    record {
      far = rw (← e);
      envelope = rw (← e);
    }
