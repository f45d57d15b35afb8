-- Pairs at rate 8,000 and ceiling 1, by computation: what is judged where a channel or the far side is broken, and in which order.
use Prim.Native.Nat.{ℕ}
use mathlib.Core.Path.{◌≡◌, refl}
use mathlib.Core.List.{[], ◌∷◌}
use Rattle.answers.specs.Answers.{counted}
use Rattle.answers.specs.Pick.{pick}
use Rattle.floats.specs.Functions.{zero64}
use Rattle.folds.specs.Sums.{table, zeros, all_finite}
use Rattle.scan.specs.Bins.{in_table, geometry_of, same_geometry, envelope_len}
use Rattle.scan.specs.State.{new_near, new_far, far_rule, near_rule, verdict_rule, keeps_rules, first_refusals}
use Rattle.scan.specs.Blocks.{hear_all}
use Rattle.scan.specs.Calls.{far_refusal, pushed_far, clear_refusal, rearmed, report_refusal, frames_of, bin_samples}
use Rattle.scan.specs.Steps.{refusal_of}
use Rattle.scan.specs.declared.Far.{Far}
use Rattle.scan.specs.declared.Found.TheVariants.{Nothing}
use Rattle.scan_pair.specs.declared.Channel.{Channel}
use Rattle.scan_pair.specs.State.{named, new_channel, PairWorld}
use Rattle.scan_pair.specs.Calls.{pair_making_refusal, pair_made, pair_reset_refusal, pair_reset, pair_far, pair_rearmed, pair_frames, pair_bin_samples}
use Rattle.scan_pair.specs.Steps.{rearm, frames, ask, PairCall, on, far, reset, settings, bin_samples_report, own_called, pair_called, pair_making}
use mathlib.Core.Bool.{false}

-- frames banked below 4, is the rule that this channel breaks
abbrev broken : Channel
broken = record { near = new_near; verdict = record { banked = 4; frames = 0; last = zero64; found = Nothing; beyond = false; exhausted = false } }

-- far blocks that do not follow from the samples accepted
abbrev broken_far : Far
broken_far = record { next = 1; sum = zero64; count = 0; accepted = 0 }

-- the buffers that are judged, with lag sums of these lengths
abbrev world : Far → Channel → Channel → ℕ → ℕ → PairWorld
world f k m i j =
    record {
      pair = record { geometry = geometry_of 8000 1; far = f; first = k; second = m };
      buffers =
          record {
            envelope = zeros (envelope_len 0 (geometry_of 8000 1));
            first = record { levels = []; lag_sums = zeros i };
            second = record { levels = []; lag_sums = zeros j };
            window = [];
            prefix = [];
            squares = [];
            scores = [];
          };
    }

abbrev refusal : PairWorld → PairCall → ℕ
refusal w c = refusal_of (pair_called 0 w c).response

-- channel 1 is broken, and channel 0 whole
abbrev half : PairWorld
half = world new_far new_channel broken 2 2

-- its own calls are refused with 3; those of channel 0, far pushes and reports of the settings are not
broken_shows : (refusal half (on 1 rearm) ≡ 3) × (refusal half (on 1 (ask frames)) ≡ 3)
unfolding pair_called own_called named pair_rearmed rearmed pair_frames frames_of counted clear_refusal report_refusal first_refusals keeps_rules far_rule near_rule verdict_rule in_table geometry_of same_geometry zeros table pick
broken_shows = (refl, refl)

broken_hidden : (refusal half (on 0 rearm) ≡ 0) × (refusal half (on 0 (ask frames)) ≡ 0) × (refusal half (far (zero64 ∷ [])) ≡ 0) × (refusal half (settings bin_samples_report) ≡ 0)
unfolding pair_called own_called named pair_rearmed rearmed pair_frames frames_of counted pair_far pushed_far far_refusal all_finite hear_all pair_bin_samples bin_samples clear_refusal report_refusal first_refusals keeps_rules far_rule near_rule verdict_rule in_table geometry_of same_geometry zeros table pick
broken_hidden = (refl, refl, refl, refl)

-- a reset judges both, and 2 stands before 3: of the whole pair it is accepted, with either channel broken it is 3, and with lag sums of one too few it is 2 whichever is broken
resets : (refusal (world new_far new_channel new_channel 2 2) reset ≡ 0) × (refusal half reset ≡ 3) × (refusal (world new_far broken new_channel 2 2) reset ≡ 3) × (refusal (world new_far broken new_channel 2 1) reset ≡ 2) × (refusal (world new_far new_channel broken 1 2) reset ≡ 2)
unfolding pair_called pair_reset pair_reset_refusal first_refusals keeps_rules far_rule near_rule verdict_rule in_table geometry_of same_geometry zeros table pick
resets = (refl, refl, refl, refl, refl)

-- the far side is broken: every call is refused with 3, but for one that names no channel
broken_far_lem : (refusal (world broken_far new_channel new_channel 2 2) (far []) ≡ 3) × (refusal (world broken_far new_channel new_channel 2 2) (on 0 rearm) ≡ 3) × (refusal (world broken_far new_channel new_channel 2 2) reset ≡ 3) × (refusal (world broken_far broken broken 0 0) (on 2 rearm) ≡ 11)
unfolding pair_called own_called named pair_rearmed rearmed pair_far pushed_far far_refusal all_finite hear_all pair_reset pair_reset_refusal clear_refusal first_refusals keeps_rules far_rule near_rule verdict_rule in_table geometry_of same_geometry zeros table pick
broken_far_lem = (refl, refl, refl, refl)

-- a length that is wrong for one channel is not the other's
lengths_apart : (refusal (world new_far new_channel new_channel 2 1) (on 0 rearm) ≡ 0) × (refusal (world new_far new_channel new_channel 2 1) (on 1 rearm) ≡ 2) × (refusal (world new_far new_channel new_channel 2 1) (far []) ≡ 0)
unfolding pair_called own_called named pair_rearmed rearmed pair_far pushed_far far_refusal all_finite hear_all clear_refusal first_refusals keeps_rules far_rule near_rule verdict_rule in_table geometry_of same_geometry zeros table pick
lengths_apart = (refl, refl, refl)

-- a pair begins: the making is accepted with these lengths, refused with 2 where the second channel's lag sums are one short, and with 1 outside the table
begins : (refusal_of (pair_making 0 8000 1 half.buffers).response ≡ 0) × (refusal_of (pair_making 0 8000 1 (world new_far new_channel new_channel 2 1).buffers).response ≡ 2) × (refusal_of (pair_making 0 7999 1 half.buffers).response ≡ 1)
unfolding pair_making pair_made pair_making_refusal in_table geometry_of zeros table pick
begins = (refl, refl, refl)
