-- `recording_store::write_samples` meets its contract: what the loop passed is stored, and the rest is as it was.
use mathlib.Core.Path.{◌≡◌, ap, ◌∙◌}
use mathlib.Core.List.{◌++◌}
use native.Mathlib.Omega.{arith}
use Prim.Native.Nat.{ℕ, ◌+◌, ◌*◌}
use lib.ListN.{drop}
use lib.Seq.{sets}
use Rattle.recording.specs.Bytes.{bytes}
use Rattle.recording.specs.Samples.{width, bytes_of}
use Rattle.recording.proofs.Forms.{bytes_mono}
use Rattle.recording_convert.specs.Converting.{form_from, form_to, stored}
use Rattle.recording_store.specs.Steps.{bits_in}
use Rattle.recording_store.proofs.Laws.{store_none, store_more, store_length}
use Rattle.recording_store.proofs.write_samples.Goals as goal

pub loop-i-init : goal.loop-i-init
loop-i-init c =
    let from = c.args in
    store_none from.direction from.s.now from.out.now from.n c.requires.2 c.requires.1

pub overflow_mul-width : goal.overflow_mul-width
overflow_mul-width c =
    let from = c.args in
    let i = c.loop-i.i in
    omega (arith, ap (λ (k : ℕ). k * i) c.width_of-width.ensures, bytes_mono (form_to from.direction) i from.n (omega arith), c.requires.1)

pub code_at-requires : goal.code_at-requires
code_at-requires c =
    let from = c.args in
    let i = c.loop-i.i in
    omega (arith, bytes_mono (form_from from.direction) (i + 1) from.n (omega arith), c.requires.0)

pub put-requires : goal.put-requires
put-requires c =
    let from = c.args in
    let loop = c.loop-i in
    let i = loop.i in
    omega (arith, ap (λ (k : ℕ). k * i + k) c.width_of-width.ensures, bytes_mono (form_to from.direction) (i + 1) from.n (omega arith), c.requires.1, store_length from.direction from.s.now from.out.now from.n c.requires.2 c.requires.1 i (omega arith) loop.out loop.invariant)

pub loop-i-preserved : goal.loop-i-preserved
loop-i-preserved c =
    let from = c.args in
    let loop = c.loop-i in
    let W = width (form_to from.direction) in
    let bits = c.unwrap_or-bits.ensures ∙ ap bits_in c.code_at.ensures in
    c.put.ensures
    ∙ ap (λ (k : ℕ). sets loop.out (k * loop.i) (bytes k c.unwrap_or-bits.result)) c.width_of-width.ensures
    ∙ ap (λ (b : ℕ). sets loop.out (W * loop.i) (bytes W b)) bits
    ∙ store_more from.direction from.s.now from.out.now from.n c.requires.2 c.requires.1 loop.i (omega arith) loop.out loop.invariant

pub shape_of-out : goal.shape_of-out
shape_of-out c =
    let from = c.args in
    let loop = c.loop-i in
    store_length from.direction from.s.now from.out.now from.n c.requires.2 c.requires.1 loop.i (omega arith) loop.out loop.invariant

pub returns : goal.returns
returns c =
    let from = c.args in
    let loop = c.loop-i in
    let all : loop.i ≡ from.n = omega arith in
    loop.invariant ∙ ap (λ (k : ℕ). stored from.direction from.s.now k ++ drop (bytes_of (form_to from.direction) k) from.out.now) all
