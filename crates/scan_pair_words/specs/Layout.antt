-- Where each field of a pair stands in the 38 words that a host lends: words 0 to 24 are laid out as a scan's (scan_words: Layout), the common part in 0 to 11 and channel 0 in
-- 12 to 24; channel 1 stands in 25 to 37, each of its words 13 behind the word of channel 0. Any 38 words load; a word of a channel that no state stores breaks that channel's rules alone.
use Rattle.std.specs.Prelude.{ℕ, List, ◌++◌, ltb, take, drop}
use Rattle.answers.specs.Pick.{pick}
use Rattle.scan.specs.declared.Far.{Far}
use Rattle.scan_words.specs.Layout.{scan_words, loaded_geometry, loaded_far, loaded_near, loaded_verdict, stored_geometry, stored_far, stored_near, stored_verdict}
use Rattle.scan_pair.specs.State.{Side, first, second, chosen}
use Rattle.scan_pair.specs.declared.Channel.{Channel}
use Rattle.scan_pair.specs.declared.Pair.{Pair}

-- how many words a state has, and how many of them a channel
abbrev pub pair_words : ℕ
pair_words = 38

abbrev pub channel_words : ℕ
channel_words = 13

-- the n words from place a on
abbrev pub part : ℕ → ℕ → List ℕ → List ℕ
part a n ws = take n (drop a ws)

-- the words with something else in that part
abbrev pub with_part : ℕ → ℕ → List ℕ → List ℕ → List ℕ
with_part a n ws new = take a ws ++ (new ++ drop n (drop a ws))

-- where the 25 words begin whose last 13 are a channel's: before those of channel 0 stands the common part; what stands before those of channel 1 is not looked at
abbrev pub place_of : Side → ℕ
place_of first = 0
place_of second = channel_words

abbrev pub words_of : Side → List ℕ → List ℕ
words_of d ws = part (place_of d) scan_words ws

-- ---- loading

unfoldable pub loaded_channel : List ℕ → Channel
loaded_channel ws = record { near = loaded_near ws; verdict = loaded_verdict ws }

unfoldable pub loaded_pair : List ℕ → Pair
loaded_pair ws =
    record {
      geometry = loaded_geometry (words_of first ws);
      far = loaded_far (words_of first ws);
      first = loaded_channel (words_of first ws);
      second = loaded_channel (words_of second ws);
    }

-- ---- storing

unfoldable pub stored_channel : List ℕ → Channel → List ℕ
stored_channel ws k = stored_verdict (stored_near ws k.near) k.verdict

-- a channel's words: no other word is written
unfoldable pub stored_in : List ℕ → Side → Channel → List ℕ
stored_in ws d k = with_part (place_of d) scan_words ws (stored_channel (words_of d ws) k)

-- the far side's words alone
unfoldable pub far_stored : List ℕ → Far → List ℕ
far_stored ws f = with_part 0 scan_words ws (stored_far (words_of first ws) f)

-- the common part's
unfoldable pub common_stored : List ℕ → Pair → List ℕ
common_stored ws p = with_part 0 scan_words ws (stored_far (stored_geometry (words_of first ws) p.geometry) p.far)

unfoldable pub stored_pair : List ℕ → Pair → List ℕ
stored_pair ws p = stored_in (stored_in (common_stored ws p) first p.first) second p.second

-- ---- what a call leaves in the words, where it answers the number n: numbers below 16 are refusals

-- a call of channel d
unfoldable pub settled_in : List ℕ → ℕ → Side → Pair → List ℕ
settled_in ws n d p = pick (ltb n 16) ws (stored_in ws d (chosen p d))

-- a far push
unfoldable pub far_settled : List ℕ → ℕ → Pair → List ℕ
far_settled ws n p = pick (ltb n 16) ws (far_stored ws p.far)

-- a making and a reset
unfoldable pub pair_settled : List ℕ → ℕ → Pair → List ℕ
pair_settled ws n p = pick (ltb n 16) ws (stored_pair ws p)
