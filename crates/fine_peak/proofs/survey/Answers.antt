-- `fine_peak::survey` meets its contract. Invariant: the crest and the total of the first k entries.
use Rattle.std.proofs.Common.{◌≡◌, refl, ◌∙◌, arith}
use Rattle.std.proofs.Common.{◌<◌, length-take-le}
use Rattle.std.proofs.lemmas.List.{get_or-take}
use lib.Ieee.{nan, of_bits}
use Rattle.folds.specs.Sums.{upto}
use Rattle.folds.proofs.Laws.{more}
use Rattle.fine_peak.specs.Peak.{crest_of, height, heights_of}
use Rattle.fine_peak.proofs.Laws.{met_next}
use Rattle.fine_peak.proofs.survey.Goals as goal

pub loop-k-init : goal.loop-k-init
unfolding crest_of upto of_bits
loop-k-init c = (refl, refl)

pub loop-k-preserved : goal.loop-k-preserved
loop-k-preserved c =
    let l = c.loop-k in
    let xs = c.args.correlation.now in
    let t = height xs in
    let before : l.k < c.args.n = omega (arith, length-take-le c.args.n xs c.requires) in
    let entry = get_or-take c.args.n xs l.k nan before in
    let x : c.magnitude-height.result ≡ t l.k = cc in
    (c.met-crest.ensures ∙ met_next t l.k l.crest _ l.invariant.0 x, cc (more t l.k l.total l.invariant.1))

pub returns : goal.returns
unfolding heights_of
returns c =
    let e : c.loop-k.k ≡ c.args.n = omega (arith, length-take-le c.args.n c.args.correlation.now c.requires) in
    cc
