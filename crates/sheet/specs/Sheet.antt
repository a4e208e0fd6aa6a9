-- The turn sheet (01): what the program prints of a text, byte for byte. Assumes nothing.
use Rattle.std.specs.Prelude.{ℕ, suc, ◌+◌, ◌*◌, List, [], ◌∷◌, ◌++◌, leb, length}
use Rattle.text.specs.Nom.{bytes}
use Rattle.text.specs.Spans.{shown}
use Rattle.tables.specs.Layout.{clip_words, tag_words}
use Rattle.tables.specs.Refusal.{Answer, given, or_refuse, text_too_long, total_too_long}
use Rattle.assembly.specs.Assembly.{Clip}
use Rattle.media.specs.Calls.{parse_media_playlist, clips_read}
use Rattle.clock.specs.Clock.{largest_total, tick_of}
use Rattle.read_clips.specs.Lists.{ns_of, total_of, once_read}
use Rattle.printing.specs.Lines.{number_line, field}
use Rattle.printing.specs.Said.{printed}

-- ---- sizes: "reads standard input (480 clips, 2,048 unknown tags)"; "text above 65,536 bytes" is refused
abbrev pub text_size : ℕ
text_size = 65536

abbrev pub clip_room : ℕ
clip_room = 480 * clip_words

abbrev pub tag_room : ℕ
tag_room = 2048 * tag_words

-- "at rate 100"
abbrev pub sheet_rate : ℕ
sheet_rate = 100

-- ---- lines
-- "the header below"
abbrev pub header_line : List ℕ
header_line = bytes "clip\tstart\tlength\ttick\turi\n"

-- "per clip, tab between fields: number, start ns, length ns, start tick ..., URI"
unfoldable pub clip_line : ℕ → ℕ → ℕ → ℕ → List ℕ → List ℕ
clip_line number start length tick uri = field number ++ (field start ++ (field length ++ (field tick ++ (uri ++ bytes "\n"))))

-- "then `total` and ns"
unfoldable pub total_line : ℕ → List ℕ
total_line ns = bytes "total\t" ++ number_line ns

-- ---- the clips that were read
-- the first of these has this number and this start, and each other one starts where the one before it ends; "start tick of turn 0", where a moment is the start itself
unfoldable pub clip_lines : List ℕ → ℕ → ℕ → List Clip → List ℕ
clip_lines text number start [] = []
clip_lines text number start (c ∷ clips) = clip_line number start (ns_of c) (tick_of start sheet_rate) (shown text c.uri) ++ clip_lines text (suc number) (start + ns_of c) clips

unfoldable pub sheet_of : List ℕ → List Clip → List ℕ
sheet_of text clips = header_line ++ (clip_lines text 0 0 clips ++ total_line (total_of clips))

-- ---- what is printed: 1 by the program's own size; the reader's refusals; of the clock's only 11, since lengths that were read are below 10^18 and rate and
-- turn are in their limits; or the sheet
unfoldable pub read_sheet : List ℕ → Answer (List ℕ)
read_sheet text =
    once_read (parse_media_playlist text clip_room tag_room)
    (or_refuse (leb (total_of (clips_read text)) largest_total) total_too_long 0
    (given (sheet_of text (clips_read text))))

unfoldable pub sheet_text : List ℕ → List ℕ
sheet_text text = printed (or_refuse (leb (length text) text_size) text_too_long 0 (read_sheet text))
