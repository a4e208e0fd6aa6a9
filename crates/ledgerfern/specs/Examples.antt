-- Numbers by computation over the definitions: a refusal, a head out and in, and numbers that no head has. Assumes nothing.
use Rattle.std.specs.Prelude.{ℕ, ◌≡◌, refl, true, false, List, [], ◌∷◌, map}
use Rattle.std.proofs.Math.Option.{none, some}
use Rattle.text.specs.Nom.{span}
use Rattle.text.specs.BasicTags.{event, vod, other}
use Rattle.tables.specs.Refusal.{refused, given, left_out_tag, output_short, no_such_clip, nothing_plays, tick_too_late, bad_start, too_wide}
use Rattle.assembly.specs.Assembly.{Head, head, empty_head}
use Rattle.media.specs.Calls.{room}
use Rattle.playing.specs.Playing.{pair, playing}
use Rattle.window.specs.Window as window
use Rattle.cue_file.specs.Read.{found}
use Rattle.ledgerfern.specs.declared.Head as headᵈ
use Rattle.ledgerfern.specs.Numbers.{verdict_numbers, value_numbers, on_numbers, playing_numbers, starts_numbers, window_numbers, windows_numbers, written_numbers, cue_numbers, type_number, head_numbers, read_numbers, room_numbers}
use Rattle.ledgerfern.specs.Heads.{is_version, is_type, is_head, type_from, head_from, head_of}

-- a head of zeros but for its marks
abbrev marked : ℕ → ℕ → ℕ → headᵈ.Head
marked e i n = record {
  version_present = 0;
  version = 0;
  target_duration = 0;
  media_sequence = 0;
  discontinuity_sequence = 0;
  playlist_type = 0;
  type_start = 0;
  type_end = 0;
  end_list = e;
  i_frames_only = i;
  independent_segments = n;
}

abbrev headᶻ : headᵈ.Head
headᶻ = marked 0 0 0

-- * M`#EXT-X-KEY:METHOD=NONE\n`: 5 at 8, and zeros for all else
refused_read : read_numbers (refused left_out_tag 8) ≡ record { number = 5; place = 8; clips = 0; tags = 0; stop = 0; head = headᶻ }
refused_read = refl

-- clips, then kept tags
rooms : room_numbers (given (room 2 1)) ∷ room_numbers (refused left_out_tag 8) ∷ []
    ≡ record { number = 0; place = 0; clips = 2; tags = 1 } ∷ record { number = 5; place = 8; clips = 0; tags = 0 } ∷ []
rooms = refl

refused_value : value_numbers (refused no_such_clip 0) ≡ record { number = 14; place = 0; value = 0 }
refused_value = refl

-- what is on: turn, then clip, then the ticks since and left
on_air : on_numbers (given (pair 2 1)) ∷ on_numbers (refused nothing_plays 0) ∷ []
    ≡ record { number = 0; place = 0; turn = 2; clip = 1 } ∷ record { number = 17; place = 0; turn = 0; clip = 0 } ∷ []
on_air = refl

played : playing_numbers (given (playing 4 3 2 1)) ∷ playing_numbers (refused tick_too_late 0) ∷ []
    ≡ record { number = 0; place = 0; turn = 4; clip = 3; since = 2; left = 1 } ∷ record { number = 18; place = 0; turn = 0; clip = 0; since = 0; left = 0 } ∷ []
played = refl

starts : starts_numbers (given 3) ∷ starts_numbers (refused output_short 0) ∷ [] ≡ record { number = 0; place = 0; clips = 3 } ∷ record { number = 10; place = 0; clips = 0 } ∷ []
starts = refl

-- a cue file: its bytes; a clip's start, its URI's first byte and the place after its last one, and the count
cue_bytes : written_numbers (given 54) ∷ written_numbers (refused too_wide 0) ∷ [] ≡ record { number = 0; place = 0; length = 54 } ∷ record { number = 33; place = 0; length = 0 } ∷ []
cue_bytes = refl

cues : cue_numbers (given (found 9009000000 (span 34 38) 3)) ∷ cue_numbers (refused bad_start 0) ∷ []
    ≡ record { number = 0; place = 0; start = 9009000000; uri_start = 34; uri_end = 38; clips = 3 }
    ∷ record { number = 22; place = 0; start = 0; uri_start = 0; uri_end = 0; clips = 0 }
    ∷ []
cues = refl

-- a media and a master playlist
verdicts : map (λ m. verdict_numbers (given m)) (false ∷ true ∷ []) ≡ record { number = 0; place = 0; master = 0 } ∷ record { number = 0; place = 0; master = 1 } ∷ []
verdicts = refl

-- none is no range from 0 to 0
windows : map (λ w. window_numbers (given w)) (window.none ∷ window.range 0 0 ∷ [])
    ≡ record { number = 0; place = 0; present = 0; start = 0; end = 0 } ∷ record { number = 0; place = 0; present = 1; start = 0; end = 0 } ∷ []
windows = refl

all_windows : windows_numbers (given 3) ∷ windows_numbers (refused output_short 0) ∷ [] ≡ record { number = 0; place = 0; clips = 3 } ∷ record { number = 10; place = 0; clips = 0 } ∷ []
all_windows = refl

-- ---- a version of 0 is there; another text has its span
abbrev headᵗ : headᵈ.Head
headᵗ = record {
  version_present = 1;
  version = 0;
  target_duration = 9;
  media_sequence = 2;
  discontinuity_sequence = 0;
  playlist_type = 3;
  type_start = 29;
  type_end = 33;
  end_list = 1;
  i_frames_only = 0;
  independent_segments = 0;
}

head_out : head_numbers (head (some 0) 9 2 0 (some (other (span 29 33))) true false false) ≡ headᵗ
head_out = refl

heads_in : map head_of (headᵗ ∷ headᶻ ∷ []) ≡ some (head (some 0) 9 2 0 (some (other (span 29 33))) true false false) ∷ some empty_head ∷ []
unfolding head_of is_head is_version is_type
heads_in = refl

-- "playlist type, absent, EVENT, VOD or another text's span", out and in
types_out : map type_number (none ∷ some event ∷ some vod ∷ some (other (span 29 33)) ∷ []) ≡ 0 ∷ 1 ∷ 2 ∷ 3 ∷ []
types_out = refl

types_in : map (λ type. type_from type 29 33) (0 ∷ 1 ∷ 2 ∷ 3 ∷ []) ≡ none ∷ some event ∷ some vod ∷ some (other (span 29 33)) ∷ []
types_in = refl

-- "the marks end, I-frames only, independent", out and in: each alone
abbrev three : List Head
three = head none 0 0 0 none true false false ∷ head none 0 0 0 none false true false ∷ head none 0 0 0 none false false true ∷ []

marks_out : map head_numbers three ≡ marked 1 0 0 ∷ marked 0 1 0 ∷ marked 0 0 1 ∷ []
marks_out = refl

marks_in : map head_from (marked 1 0 0 ∷ marked 0 1 0 ∷ marked 0 0 1 ∷ []) ≡ three
marks_in = refl

-- a version beside an absent one
no_versions : map (λ present. is_version present 7) (0 ∷ 1 ∷ 2 ∷ []) ≡ false ∷ true ∷ false ∷ []
unfolding is_version
no_versions = refl

-- a span beside a type that has none; a type above 3
no_types : map (λ type. is_type type 0 5) (0 ∷ 1 ∷ 2 ∷ 3 ∷ 4 ∷ []) ≡ false ∷ false ∷ false ∷ true ∷ false ∷ []
unfolding is_type
no_types = refl
