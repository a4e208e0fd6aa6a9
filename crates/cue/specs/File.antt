-- The program `cue` (02, [3]): the cue file of a text's clips, byte for byte, or why there is none. Assumes nothing.
use Rattle.std.specs.Prelude.{ℕ, ◌+◌, ◌*◌, List, [], ◌∷◌, leb, length}
use Rattle.text.specs.Spans.{shown}
use Rattle.tables.specs.Layout.{clip_words, tag_words}
use Rattle.tables.specs.Refusal.{Answer, given, or_refuse, text_too_long, total_too_long, too_wide, output_short}
use Rattle.assembly.specs.Assembly.{Clip}
use Rattle.media.specs.Calls.{parse_media_playlist, clips_read}
use Rattle.clock.specs.Clock.{largest_total}
use Rattle.cue_file.specs.Format.{Cue, version1, clip_width, trailer_width, file_of, file_holds}
use Rattle.read_clips.specs.Lists.{ns_of, total_of, once_read}

-- ---- sizes: the program's own
abbrev pub text_size : ℕ
text_size = 65536

abbrev pub most_clips : ℕ
most_clips = 8192

abbrev pub clip_room : ℕ
clip_room = most_clips * clip_words

abbrev pub tag_room : ℕ
tag_room = 8192 * tag_words

-- so many records, URIs as long as a text, and the trailer
abbrev pub file_room : ℕ
file_room = most_clips * clip_width version1 + (text_size + trailer_width version1)

-- ---- the clips that were read: the first of these has this start, and each other one starts where the one before it ends
unfoldable pub cues_from : List ℕ → ℕ → List Clip → List Cue
cues_from text start [] = []
cues_from text start (c ∷ clips) = record { start = start; uri = shown text c.uri } ∷ cues_from text (start + ns_of c) clips

abbrev pub cues_read : List ℕ → List Cue
cues_read text = cues_from text 0 (clips_read text)

-- the reader's refusals; of the writer's 11, 33 and 10, since a list that was read keeps rule 9; or the file
unfoldable pub read_file : List ℕ → Answer (List ℕ)
read_file text =
    once_read (parse_media_playlist text clip_room tag_room)
    (or_refuse (leb (total_of (clips_read text)) largest_total) total_too_long 0
    (or_refuse (file_holds version1 (cues_read text)) too_wide 0
    (or_refuse (leb (length (file_of version1 (cues_read text))) file_room) output_short 0
    (given (file_of version1 (cues_read text))))))

-- 1 by the program's own size
unfoldable pub cue_file : List ℕ → Answer (List ℕ)
cue_file text = or_refuse (leb (length text) text_size) text_too_long 0 (read_file text)
