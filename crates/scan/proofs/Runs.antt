-- Scripted scans, computed by the definitions. What each without a hole says is what coarse.rs says, run with the same made-up small geometry; since no rate and ceiling
-- give that geometry, each call is obeyed as if it were not refused.
use Prim.Native.Nat.{ℕ, ◌+◌}
use mathlib.Core.Path.{◌≡◌, refl}
use mathlib.Core.List.{List, [], ◌∷◌}
use lib.Ieee.{Float, binary32, of_bits, to_bits, add, sub, mul, div, lt, le, eq, of_int}
use Rattle.answers.specs.Pick.{pick}
use Rattle.floats.specs.Functions.{magnitude, narrow, root}
use Rattle.folds.specs.Sums.{upto, table, zeros, prefix_sums, prefix_squares}
use Rattle.folds.specs.Search.{down_from, search_down}
use Rattle.scan.specs.Bins.{envelope_len, near_len, window_len, prefix_len, lags}
use Rattle.scan.specs.State.{World, new_far, new_near, new_verdict, finished}
use Rattle.scan.specs.Blocks.{hear, hear_all, gather, dropped, held_at}
use Rattle.scan.specs.Scoring.{uncovered, ahead, window_of, mean_of, quiet, near_energy, flat, segment_energy, lag_product, score_at, live, live_lags, products, scores_of, add_scores, averages_of, at_ceiling, rival_upto, crowded_by, decision, ruling}
use Rattle.scan.specs.Told.{scoring_told}
use Rattle.scan.specs.Calls.{with_near, heard_by, taken_by, counted_frame, judged, scored_frame, correlation_in}
use Rattle.scan.specs.Steps.{with_envelope, with_levels}
use Rattle.scan.specs.declared.Geometry.{Geometry}

-- ---- scripts: samples by their f32 patterns

pub data Line : Type 0 where
  far : List ℕ → Line
  -- near samples, from this index on
  near : ℕ → List ℕ → Line
  score correlation frames : Line

-- what is said: what a frame tells, a report
pub data Word : Type 0 where
  frame : List ℕ → Word
  level count : ℕ → Word

abbrev pub samples_of : List ℕ → List Float
samples_of [] = []
samples_of (n ∷ ns) = of_bits binary32 n ∷ samples_of ns

-- ---- each call as if it were not refused

unfoldable pub heard : ℕ → World → List Float → World
heard slack w xs =
    let p = heard_by w.scan (hear_all slack w.scan.geometry (record { far = w.scan.far; envelope = w.buffers.envelope }) xs) in
    record { scan = p.changed.scan; buffers = with_envelope w.buffers p.envelope }

unfoldable pub seen : World → Float → ℕ → World
seen w x index =
    pick (finished w.scan.verdict) w
    (let m = held_at w.scan.near index in
    pick (dropped w.scan.geometry m index) (record { scan = with_near w.scan m; buffers = w.buffers })
    (let p = taken_by w.scan (gather w.scan.geometry (record { near = m; levels = w.buffers.levels }) x index) in
    record { scan = p.took.scan; buffers = with_levels w.buffers p.levels }))

unfoldable pub seen_all : World → ℕ → List Float → World
seen_all w index [] = w
seen_all w index (x ∷ xs) = seen_all (seen w x index) (index + 1) xs

unfoldable pub told : ℕ → World → List Line → List Word
told slack w [] = []
told slack w (far xs ∷ ls) = told slack (heard slack w (samples_of xs)) ls
told slack w (near index xs ∷ ls) = told slack (seen_all w index (samples_of xs)) ls
told slack w (score ∷ ls) = let o = scored_frame slack w in frame (scoring_told o.scored.answer) ∷ told slack (record { scan = o.scored.scan; buffers = o.buffers }) ls
told slack w (correlation ∷ ls) = level (to_bits binary32 (correlation_in w.scan.verdict.found w.scan.verdict.last)) ∷ told slack w ls
told slack w (frames ∷ ls) = count w.scan.verdict.frames ∷ told slack w ls

-- ---- a scan of two samples a bin and four bins a frame

abbrev pub small : ℕ → Geometry
small span = record { rate = 8000; ceiling = 1; decimation = 2; bin_rate = 1000; span = span; frame = 4; ceiling_guard = 1; peak_guard = 1 }

abbrev pub new : ℕ → Geometry → World
new slack g =
    record {
      scan = record { geometry = g; far = new_far; near = new_near; verdict = new_verdict };
      buffers = record {
        envelope = zeros (envelope_len slack g);
        levels = zeros (near_len g);
        window = zeros (window_len g);
        prefix = zeros (prefix_len g);
        squares = zeros (prefix_len g);
        scores = zeros (lags g);
        lag_sums = zeros (lags g);
      };
    }

-- ---- the table

pub data Row : Type 0 where
  run : ℕ → Geometry → List Line → List Word → Row

abbrev pub All : List Row → Type 0
All [] = Unit {0}
All (run slack g script says ∷ rows) = (told slack (new slack g) script ≡ says) × All rows

abbrev pub rows : List Row
rows =
    -- uncovered: the frame starts before the span
    run 2 (small 3)
    (far (1048294370 ∷ 1058481052 ∷ 1056286713 ∷ 3175148386 ∷ 1063452583 ∷ 1025783159 ∷ []) ∷ near 1 (1056964608 ∷ 1039905762 ∷ 1050092444 ∷ 1047898105 ∷ 3166759778 ∷ 1055063975 ∷ 1017394551 ∷ 3133846919 ∷ 1026768534 ∷ []) ∷ score ∷ [])
    (frame (1 ∷ 0 ∷ []) ∷ [])
    -- ahead: too much of the window is not yet written
    ∷ run 2 (small 3)
    (far (1048294370 ∷ 1058481052 ∷ 1056286713 ∷ 3175148386 ∷ 1063452583 ∷ 1025783159 ∷ 3142235527 ∷ 1035157142 ∷ []) ∷ near 6 (1055063975 ∷ 1017394551 ∷ 3133846919 ∷ 1026768534 ∷ 3167186349 ∷ 3194081120 ∷ 1012510379 ∷ 1014197310 ∷ []) ∷ score ∷ [])
    (frame (2 ∷ 0 ∷ []) ∷ [])
    -- quiet: a silent window
    ∷ run 2 (small 3)
    (far (0 ∷ 0 ∷ 0 ∷ 0 ∷ 0 ∷ 0 ∷ 0 ∷ 0 ∷ 0 ∷ 0 ∷ 0 ∷ 0 ∷ 0 ∷ 0 ∷ []) ∷ near 6 (1055063975 ∷ 1017394551 ∷ 3133846919 ∷ 1026768534 ∷ 3167186349 ∷ 3194081120 ∷ 1012510379 ∷ 1014197310 ∷ []) ∷ score ∷ [])
    (frame (3 ∷ 0 ∷ []) ∷ [])
    -- flat: a constant near frame
    ∷ run 2 (small 3)
    (far (1048294370 ∷ 1058481052 ∷ 1056286713 ∷ 3175148386 ∷ 1063452583 ∷ 1025783159 ∷ 3142235527 ∷ 1035157142 ∷ 3175574957 ∷ 3202469728 ∷ 1020898987 ∷ 1022585918 ∷ 1010855720 ∷ 3212777310 ∷ []) ∷ near 6 (1048576000 ∷ 1048576000 ∷ 1048576000 ∷ 1048576000 ∷ 1048576000 ∷ 1048576000 ∷ 1048576000 ∷ 1048576000 ∷ []) ∷ score ∷ [])
    (frame (4 ∷ 0 ∷ []) ∷ [])
    -- a hole (request d): the same index twice begins the frame anew
    ∷ run 2 (small 3)
    (far (1048294370 ∷ 1058481052 ∷ 1056286713 ∷ 3175148386 ∷ 1063452583 ∷ 1025783159 ∷ 3142235527 ∷ 1035157142 ∷ 3175574957 ∷ 3202469728 ∷ 1020898987 ∷ 1022585918 ∷ 1010855720 ∷ 3212777310 ∷ []) ∷ near 6 (1055063975 ∷ []) ∷ near 6 (1048576000 ∷ 1048576000 ∷ 1048576000 ∷ 1048576000 ∷ 1048576000 ∷ 1048576000 ∷ 1048576000 ∷ 1048576000 ∷ []) ∷ score ∷ [])
    (frame (4 ∷ 0 ∷ []) ∷ [])
    -- a smaller index; the block under way goes too
    ∷ run 2 (small 3)
    (far (1048294370 ∷ 1058481052 ∷ 1056286713 ∷ 3175148386 ∷ 1063452583 ∷ 1025783159 ∷ 3142235527 ∷ 1035157142 ∷ 3175574957 ∷ 3202469728 ∷ 1020898987 ∷ 1022585918 ∷ 1010855720 ∷ 3212777310 ∷ []) ∷ near 6 (1055063975 ∷ 1055063975 ∷ 1055063975 ∷ 1055063975 ∷ 1055063975 ∷ []) ∷ near 6 (1048576000 ∷ 1048576000 ∷ 1048576000 ∷ 1048576000 ∷ 1048576000 ∷ 1048576000 ∷ 1048576000 ∷ 1048576000 ∷ []) ∷ score ∷ [])
    (frame (4 ∷ 0 ∷ []) ∷ [])
    -- a hole off the grid drops the frame and the sample
    ∷ run 2 (small 3)
    (far (1048294370 ∷ 1058481052 ∷ 1056286713 ∷ 3175148386 ∷ 1063452583 ∷ 1025783159 ∷ 3142235527 ∷ 1035157142 ∷ 3175574957 ∷ 3202469728 ∷ 1020898987 ∷ 1022585918 ∷ 1010855720 ∷ 3212777310 ∷ []) ∷ near 4 (1055063975 ∷ 1055063975 ∷ 1055063975 ∷ []) ∷ near 9 (1055063975 ∷ []) ∷ near 6 (1048576000 ∷ 1048576000 ∷ 1048576000 ∷ 1048576000 ∷ 1048576000 ∷ 1048576000 ∷ 1048576000 ∷ 1048576000 ∷ []) ∷ score ∷ [])
    (frame (4 ∷ 0 ∷ []) ∷ [])
    -- a hole of one index before the frame's last sample: the frame that begins there stands where its index says
    ∷ run 2 (small 3)
    (far (1048294370 ∷ 1058481052 ∷ 1056286713 ∷ 3175148386 ∷ 1063452583 ∷ 1025783159 ∷ 3142235527 ∷ 1035157142 ∷ 3175574957 ∷ 3202469728 ∷ 1020898987 ∷ 1022585918 ∷ 1010855720 ∷ 3212777310 ∷ []) ∷ near 6 (1048576000 ∷ 1048576000 ∷ 1048576000 ∷ 1048576000 ∷ 1048576000 ∷ 1048576000 ∷ 1048576000 ∷ []) ∷ near 14 (1055063975 ∷ 1055063975 ∷ 1055063975 ∷ 1055063975 ∷ 1055063975 ∷ 1055063975 ∷ 1055063975 ∷ 1055063975 ∷ []) ∷ score ∷ [])
    (frame (2 ∷ 0 ∷ []) ∷ [])
    -- weak on the fourth
    ∷ run 3 (small 5)
    (far (1060132880 ∷ 3154256562 ∷ 982763440 ∷ 1021869281 ∷ 3175069631 ∷ 1062269996 ∷ 3202311654 ∷ 1010954126 ∷ 1062324803 ∷ 1058985163 ∷ 3200411821 ∷ 1061958792 ∷ 3140915397 ∷ 3188117739 ∷ 1062434351 ∷ 3174847998 ∷ 3203744129 ∷ 1000313840 ∷ []) ∷ near 10 (1049827540 ∷ 3206681463 ∷ 3189756794 ∷ 1059086762 ∷ 3211452373 ∷ 1057250222 ∷ 1059558915 ∷ 3157658794 ∷ []) ∷ score ∷ far (1018428266 ∷ 1059475989 ∷ 3175896311 ∷ 1024889330 ∷ 3199401377 ∷ 3206425716 ∷ 3204830242 ∷ 1022909784 ∷ []) ∷ near 18 (1060352828 ∷ 3209150496 ∷ 3166737280 ∷ 1043380192 ∷ 1040691376 ∷ 1041917461 ∷ 3194899937 ∷ 1061783138 ∷ []) ∷ score ∷ far (3173767538 ∷ 1015159160 ∷ 3209177490 ∷ 1054049494 ∷ 1059127757 ∷ 1064139839 ∷ 1007652163 ∷ []) ∷ near 26 (3211437114 ∷ 3213460259 ∷ 1056168226 ∷ 3204075329 ∷ 3206507583 ∷ 3202942902 ∷ 1035523646 ∷ 1063771327 ∷ []) ∷ score ∷ far (1008583075 ∷ 1006101676 ∷ 3170792284 ∷ 1046934944 ∷ 3139030646 ∷ 1057219753 ∷ 1062782310 ∷ 1061936473 ∷ 998574511 ∷ []) ∷ near 34 (3202739698 ∷ 1051757922 ∷ 3206683297 ∷ 3200398700 ∷ 3202531983 ∷ 1046532583 ∷ 3187788915 ∷ 3204660736 ∷ []) ∷ score ∷ correlation ∷ frames ∷ [])
    (frame (5 ∷ 1060575040 ∷ 24 ∷ []) ∷ frame (5 ∷ 1059057384 ∷ 24 ∷ []) ∷ frame (5 ∷ 1050429717 ∷ 24 ∷ []) ∷ frame (6 ∷ 24 ∷ []) ∷ level 1064230615 ∷ count 4 ∷ [])
    -- ceiling on the fourth
    ∷ run 3 (small 5)
    (far (1060132880 ∷ 3154256562 ∷ 982763440 ∷ 1021869281 ∷ 3175069631 ∷ 1062269996 ∷ 3202311654 ∷ 1010954126 ∷ 1062324803 ∷ 1058985163 ∷ 3200411821 ∷ 1061958792 ∷ 3140915397 ∷ 3188117739 ∷ 1062434351 ∷ 3174847998 ∷ 3203744129 ∷ 1000313840 ∷ []) ∷ near 10 (1052804300 ∷ 3174292396 ∷ 3171846881 ∷ 1024136829 ∷ 3180138693 ∷ 1054129241 ∷ 3191171475 ∷ 1008271218 ∷ []) ∷ score ∷ far (1018428266 ∷ 1059475989 ∷ 3175896311 ∷ 1024889330 ∷ 3199401377 ∷ 3206425716 ∷ 3204830242 ∷ 1022909784 ∷ []) ∷ near 18 (1054542152 ∷ 1049008413 ∷ 3191117244 ∷ 1053926997 ∷ 1003175362 ∷ 3181189294 ∷ 1053610005 ∷ 1020087719 ∷ []) ∷ score ∷ far (3173767538 ∷ 1015159160 ∷ 3209177490 ∷ 1054049494 ∷ 1059127757 ∷ 1064139839 ∷ 1007652163 ∷ []) ∷ near 26 (3197263195 ∷ 3174692557 ∷ 1030346109 ∷ 1050030322 ∷ 3179289591 ∷ 3157069087 ∷ 3188994493 ∷ 3196570883 ∷ []) ∷ score ∷ far (1008583075 ∷ 1006101676 ∷ 3170792284 ∷ 1046934944 ∷ 3139030646 ∷ 1057219753 ∷ 1062782310 ∷ 1061936473 ∷ 998574511 ∷ []) ∷ near 34 (3198042910 ∷ 1006436158 ∷ 3178833524 ∷ 3162742711 ∷ 3201725624 ∷ 1046646888 ∷ 1050236819 ∷ 1054678556 ∷ []) ∷ score ∷ correlation ∷ frames ∷ [])
    (frame (5 ∷ 1064823904 ∷ 24 ∷ []) ∷ frame (5 ∷ 1065344735 ∷ 24 ∷ []) ∷ frame (5 ∷ 1064346880 ∷ 24 ∷ []) ∷ frame (7 ∷ 24 ∷ []) ∷ level 1065268142 ∷ count 4 ∷ [])
    -- crowded on the fourth
    ∷ run 3 (small 5)
    (far (1063877971 ∷ 3174408950 ∷ 1059833474 ∷ 1015745292 ∷ 1046018369 ∷ 1006963567 ∷ 3152227973 ∷ 1055153479 ∷ 1063655210 ∷ 3149181865 ∷ 3174962652 ∷ 3144028755 ∷ 3195386557 ∷ 1028847481 ∷ 3168283375 ∷ 3163504176 ∷ 1017610731 ∷ 1016000267 ∷ []) ∷ near 10 (3198090257 ∷ 3189237446 ∷ 1032540679 ∷ 3191360434 ∷ 3192902212 ∷ 1037657979 ∷ 3178191678 ∷ 3196575696 ∷ []) ∷ score ∷ far (1061782069 ∷ 1055917823 ∷ 1057396973 ∷ 3197483230 ∷ 1027420627 ∷ 1057098962 ∷ 3181253635 ∷ 3164839078 ∷ []) ∷ near 18 (1060111552 ∷ 1020190966 ∷ 3162213290 ∷ 3195367918 ∷ 1035790250 ∷ 1053591711 ∷ 3196755042 ∷ 3185343411 ∷ []) ∷ score ∷ far (987527874 ∷ 3197474021 ∷ 1025750949 ∷ 1040886005 ∷ 1018646679 ∷ 3169051766 ∷ 1017347381 ∷ []) ∷ near 26 (3197088844 ∷ 3191152906 ∷ 1043849321 ∷ 1046003923 ∷ 1048656556 ∷ 1041159655 ∷ 1047062430 ∷ 1041435893 ∷ []) ∷ score ∷ far (1025972137 ∷ 1026064408 ∷ 1063922512 ∷ 1007368617 ∷ 1050348640 ∷ 3164218139 ∷ 1019401531 ∷ 1011479840 ∷ 1059326840 ∷ []) ∷ near 34 (998953772 ∷ 1050008044 ∷ 1036932064 ∷ 1026080559 ∷ 3195937397 ∷ 3164540077 ∷ 1047302346 ∷ 1036418810 ∷ []) ∷ score ∷ correlation ∷ frames ∷ [])
    (frame (5 ∷ 1064073363 ∷ 24 ∷ []) ∷ frame (5 ∷ 1064533603 ∷ 24 ∷ []) ∷ frame (5 ∷ 1063814251 ∷ 24 ∷ []) ∷ frame (8 ∷ 24 ∷ []) ∷ level 1059270154 ∷ count 4 ∷ [])
    -- three frames banked, a region on the fourth; the report is its averaged correlation, no longer the last peak
    ∷ run 3 (small 5)
    (far (1060132880 ∷ 3154256562 ∷ 982763440 ∷ 1021869281 ∷ 3175069631 ∷ 1062269996 ∷ 3202311654 ∷ 1010954126 ∷ 1062324803 ∷ 1058985163 ∷ 3200411821 ∷ 1061958792 ∷ 3140915397 ∷ 3188117739 ∷ 1062434351 ∷ 3174847998 ∷ 3203744129 ∷ 1000313840 ∷ []) ∷ near 10 (1056056252 ∷ 1047256555 ∷ 3196414679 ∷ 1054896729 ∷ 3183288301 ∷ 3176210177 ∷ 1056797314 ∷ 3162787411 ∷ []) ∷ score ∷ far (1018428266 ∷ 1059475989 ∷ 3175896311 ∷ 1024889330 ∷ 3199401377 ∷ 3206425716 ∷ 3204830242 ∷ 1022909784 ∷ []) ∷ near 18 (3192931695 ∷ 3183272145 ∷ 1025218147 ∷ 1051801006 ∷ 3156199419 ∷ 3143459094 ∷ 3192755721 ∷ 3193565183 ∷ []) ∷ score ∷ far (3173767538 ∷ 1015159160 ∷ 3209177490 ∷ 1054049494 ∷ 1059127757 ∷ 1064139839 ∷ 1007652163 ∷ []) ∷ near 26 (3199552854 ∷ 3181700193 ∷ 1032970310 ∷ 3177286606 ∷ 3203312879 ∷ 1041776310 ∷ 1052757425 ∷ 1057824145 ∷ []) ∷ score ∷ far (1008583075 ∷ 1006101676 ∷ 3170792284 ∷ 1046934944 ∷ 3139030646 ∷ 1057219753 ∷ 1062782310 ∷ 1061936473 ∷ 998574511 ∷ []) ∷ near 34 (3183116044 ∷ 3156531873 ∷ 3181083286 ∷ 3179422885 ∷ 1030306024 ∷ 1021778998 ∷ 1047076970 ∷ 1052248352 ∷ []) ∷ score ∷ correlation ∷ frames ∷ [])
    (frame (5 ∷ 1065059680 ∷ 24 ∷ []) ∷ frame (5 ∷ 1064437607 ∷ 24 ∷ []) ∷ frame (5 ∷ 1065043251 ∷ 24 ∷ []) ∷ frame (9 ∷ 2 ∷ 4606923037042157645 ∷ 24 ∷ []) ∷ level 1064870080 ∷ count 4 ∷ [])
    -- a flat stretch: three of six lags take no product
    ∷ run 3 (small 5)
    (far (1056964608 ∷ 1056964608 ∷ 1056964608 ∷ 1056964608 ∷ 1056964608 ∷ 1056964608 ∷ 1056964608 ∷ 1056964608 ∷ 1056964608 ∷ 1056964608 ∷ 1056964608 ∷ 1056964608 ∷ 3195796272 ∷ 1062896646 ∷ 1060100160 ∷ 3205654680 ∷ 1061048455 ∷ 1049345185 ∷ []) ∷ near 10 (3203025812 ∷ 1055386612 ∷ 3195678223 ∷ 3192308197 ∷ 3181083613 ∷ 1035290326 ∷ 3200274365 ∷ 1044326486 ∷ []) ∷ score ∷ [])
    (frame (5 ∷ 1035943896 ∷ 12 ∷ []) ∷ [])
    ∷ []

pub runs_agree : All rows
unfolding heard seen seen_all told hear hear_all gather pick magnitude upto table zeros prefix_sums prefix_squares down_from search_down uncovered ahead window_of mean_of quiet near_energy flat segment_energy lag_product score_at live live_lags products scores_of add_scores averages_of at_ceiling rival_upto crowded_by decision ruling counted_frame judged scored_frame narrow root of_bits to_bits add sub mul div lt le eq of_int
runs_agree = (refl, (refl, (refl, (refl, (refl, (refl, (refl, (refl, (refl, (refl, (refl, (refl, (refl, tt)))))))))))))
