-- "A definition gives this paper's number and values for each of its cases": the numbers that the face hands out for each answer of the library.
-- "A refusal returns its number, a place, and zeros for all else." Assumes nothing.
use Rattle.std.specs.Prelude.{ℕ, ◌≡◌, Bool, true, false, List, length}
use Rattle.std.proofs.Math.Option.{Option, none, some}
use Rattle.text.specs.Nom.{span}
use Rattle.text.specs.BasicTags.{PlaylistType, event, vod, other}
use Rattle.tables.specs.Refusal.{Answer, refused, given, laid, answer_number, answer_place}
use Rattle.assembly.specs.Assembly.{Head, empty_head}
use Rattle.assembly.specs.Words.{clips_words, tags_words}
use Rattle.media.specs.Calls.{Read, read, Room, room, parse_media_playlist, clips_read, tags_read}
use Rattle.starts.specs.Table.{start_records, all_starts}
use Rattle.playing.specs.Playing.{Pair, pair, Playing, playing}
use Rattle.window.specs.Window as window
use Rattle.windows.specs.Table.{window_records, all_windows}
use Rattle.cue_file.specs.Format.{version1}
use Rattle.cue_file.specs.Write.{written, cue_write}
use Rattle.cue_file.specs.Read.{Found, found}
use Rattle.ledgerfern.specs.declared.Verdict as verdictᵈ
use Rattle.ledgerfern.specs.declared.Head as headᵈ
use Rattle.ledgerfern.specs.declared.Read as readᵈ
use Rattle.ledgerfern.specs.declared.Room as roomᵈ
use Rattle.ledgerfern.specs.declared.Value as valueᵈ
use Rattle.ledgerfern.specs.declared.On as onᵈ
use Rattle.ledgerfern.specs.declared.Playing as playingᵈ
use Rattle.ledgerfern.specs.declared.Starts as startsᵈ
use Rattle.ledgerfern.specs.declared.Window as windowᵈ
use Rattle.ledgerfern.specs.declared.Windows as windowsᵈ
use Rattle.ledgerfern.specs.declared.Written as writtenᵈ
use Rattle.ledgerfern.specs.declared.Cue as cueᵈ

-- a mark: 1 or 0
abbrev pub mark : Bool → ℕ
mark true = 1
mark false = 0

-- what an answer gives, through f; 0 where it is refused
abbrev pub or_zero : {A : Type 0} → (A → ℕ) → Answer A → ℕ
or_zero f (refused r p) = 0
or_zero f (given a) = f a

abbrev pub verdict_numbers : Answer Bool → verdictᵈ.Verdict
verdict_numbers a = record { number = answer_number a; place = answer_place a; master = or_zero mark a }

-- ns or ticks
abbrev pub value_numbers : Answer ℕ → valueᵈ.Value
value_numbers a = record { number = answer_number a; place = answer_place a; value = or_zero (λ n. n) a }

-- how many bytes were written
abbrev pub written_numbers : Answer ℕ → writtenᵈ.Written
written_numbers a = record { number = answer_number a; place = answer_place a; length = or_zero (λ n. n) a }

-- "turn, clip"
abbrev pub turn_given : Pair → ℕ
turn_given (pair turn clip) = turn

abbrev pub clip_given : Pair → ℕ
clip_given (pair turn clip) = clip

abbrev pub on_numbers : Answer Pair → onᵈ.On
on_numbers a = record { number = answer_number a; place = answer_place a; turn = or_zero turn_given a; clip = or_zero clip_given a }

-- "turn, clip, ticks since its start, ticks left to the next start"
abbrev pub pair_of : Playing → Pair
pair_of (playing turn clip since left) = pair turn clip

abbrev pub since_given : Playing → ℕ
since_given (playing turn clip since left) = since

abbrev pub left_given : Playing → ℕ
left_given (playing turn clip since left) = left

abbrev pub playing_numbers : Answer Playing → playingᵈ.Playing
playing_numbers a = record {
  number = answer_number a;
  place = answer_place a;
  turn = or_zero (λ p. turn_given (pair_of p)) a;
  clip = or_zero (λ p. clip_given (pair_of p)) a;
  since = or_zero since_given a;
  left = or_zero left_given a;
}

-- how many clips' starts were laid
abbrev pub starts_numbers : Answer ℕ → startsᵈ.Starts
starts_numbers a = record { number = answer_number a; place = answer_place a; clips = or_zero (λ n. n) a }

-- and all that the call says: its numbers, and each word of the table after it
pub record StartsAs (t : List ℕ) (n rate turn : ℕ) (out₀ out : List ℕ) (r : startsᵈ.Starts) : Type 0 where
  pub answered : r ≡ starts_numbers (all_starts t n rate turn out₀)
  pub out_after : out ≡ laid (all_starts t n rate turn out₀) (start_records t n rate turn n) out₀

-- "1 or 0 for a range, start, end"; "without a range, the answer none, start and end 0"
abbrev pub range_present : window.Window → ℕ
range_present window.none = 0
range_present (window.range start end) = 1

abbrev pub window_numbers : Answer window.Window → windowᵈ.Window
window_numbers a = record {
  number = answer_number a;
  place = answer_place a;
  present = or_zero range_present a;
  start = or_zero window.start_of a;
  end = or_zero window.end_of a;
}

-- how many clips' windows were laid
abbrev pub windows_numbers : Answer ℕ → windowsᵈ.Windows
windows_numbers a = record { number = answer_number a; place = answer_place a; clips = or_zero (λ n. n) a }

-- and all that the call says: its numbers, and each word of the table after it
pub record WindowsAs (text t : List ℕ) (n : ℕ) (out₀ out : List ℕ) (r : windowsᵈ.Windows) : Type 0 where
  pub answered : r ≡ windows_numbers (all_windows text t n out₀)
  pub out_after : out ≡ laid (all_windows text t n out₀) (window_records text t n) out₀

-- all that the writer of a cue file says: its numbers, and each byte of the output after it
pub record CueWriteAs (text t : List ℕ) (n : ℕ) (out₀ out : List ℕ) (r : writtenᵈ.Written) : Type 0 where
  pub answered : r ≡ written_numbers (cue_write text t version1 n out₀)
  pub out_after : out ≡ laid (cue_write text t version1 n out₀) (written text t version1 n) out₀

-- "start in ns, URI start, URI end", and the count
abbrev pub start_found : Found → ℕ
start_found (found start (span a b) clips) = start

abbrev pub uri_start_found : Found → ℕ
uri_start_found (found start (span a b) clips) = a

abbrev pub uri_end_found : Found → ℕ
uri_end_found (found start (span a b) clips) = b

abbrev pub clips_found : Found → ℕ
clips_found (found start (span a b) clips) = clips

abbrev pub cue_numbers : Answer Found → cueᵈ.Cue
cue_numbers a = record {
  number = answer_number a;
  place = answer_place a;
  start = or_zero start_found a;
  uri_start = or_zero uri_start_found a;
  uri_end = or_zero uri_end_found a;
  clips = or_zero clips_found a;
}

-- ---- the head: "version, present or not"
abbrev pub present_number : Option ℕ → ℕ
present_number none = 0
present_number (some v) = 1

abbrev pub version_number : Option ℕ → ℕ
version_number none = 0
version_number (some v) = v

-- "playlist type, absent, EVENT, VOD or another text's span"
abbrev pub type_number : Option PlaylistType → ℕ
type_number none = 0
type_number (some event) = 1
type_number (some vod) = 2
type_number (some (other s)) = 3

abbrev pub type_start : Option PlaylistType → ℕ
type_start none = 0
type_start (some event) = 0
type_start (some vod) = 0
type_start (some (other (span a b))) = a

abbrev pub type_end : Option PlaylistType → ℕ
type_end none = 0
type_end (some event) = 0
type_end (some vod) = 0
type_end (some (other (span a b))) = b

abbrev pub head_numbers : Head → headᵈ.Head
head_numbers hd = record {
  version_present = present_number hd.version;
  version = version_number hd.version;
  target_duration = hd.target;
  media_sequence = hd.sequence;
  discontinuity_sequence = hd.discontinuities;
  playlist_type = type_number hd.type;
  type_start = type_start hd.type;
  type_end = type_end hd.type;
  end_list = mark hd.ended;
  i_frames_only = mark hd.i_frames;
  independent_segments = mark hd.independent;
}

-- ---- the reader: the empty head's numbers are zeros
abbrev pub head_given : Answer Read → Head
head_given (refused r p) = empty_head
head_given (given (read h c t n)) = h

abbrev pub clips_given : Read → ℕ
clips_given (read h c t n) = c

abbrev pub tags_given : Read → ℕ
tags_given (read h c t n) = t

abbrev pub stop_given : Read → ℕ
stop_given (read h c t n) = n

abbrev pub read_numbers : Answer Read → readᵈ.Read
read_numbers a = record {
  number = answer_number a;
  place = answer_place a;
  clips = or_zero clips_given a;
  tags = or_zero tags_given a;
  stop = or_zero stop_given a;
  head = head_numbers (head_given a);
}

-- all that the call says: its numbers, and each word of both tables after it
pub record ReadAs (text clips₀ tags₀ clips tags : List ℕ) (r : readᵈ.Read) : Type 0 where
  pub answered : r ≡ read_numbers (parse_media_playlist text (length clips₀) (length tags₀))
  pub clips_after : clips ≡ laid (parse_media_playlist text (length clips₀) (length tags₀)) (clips_words (clips_read text)) clips₀
  pub tags_after : tags ≡ laid (parse_media_playlist text (length clips₀) (length tags₀)) (tags_words (tags_read text)) tags₀

-- ---- the room that the reader needs: "clips, kept tags"
abbrev pub clips_needed : Room → ℕ
clips_needed (room clips tags) = clips

abbrev pub tags_needed : Room → ℕ
tags_needed (room clips tags) = tags

abbrev pub room_numbers : Answer Room → roomᵈ.Room
room_numbers a = record { number = answer_number a; place = answer_place a; clips = or_zero clips_needed a; tags = or_zero tags_needed a }
