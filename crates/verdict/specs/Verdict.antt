-- parser.rs, `contains_master_tag` and `is_master_playlist_tag_line`, side by side with the Rust. Assumes nothing.
use Rattle.std.specs.Prelude.{ℕ, Bool, true, false, List, [], ◌∷◌}
use Rattle.std.proofs.Math.Option.{Option, none, some}
use Rattle.text.specs.Why.{other_text, missing_byte}
use Rattle.text.specs.Nom.{Parser, fail, bytes, tag, is_not, skip, place, opt, or_else, alt, map, preceded, ◌>>=◌, done, peek_take1}
use Rattle.text.specs.Many.{many0, items}
use Rattle.text.specs.Util.{consume_line}

-- ---- an alternative as data: its text, and whether it says master
pub data Row : Type 0 where
  -- map(tag(t), |t| (k, t))
  fixed : List ℕ → Bool → Row
  -- map(terminated(tag(t), is_not("-")), |t| (k, t))
  undashed : List ℕ → Bool → Row

abbrev pub literal : Row → List ℕ
literal (fixed t k) = t
literal (undashed t k) = t

-- the rule that a row is
abbrev pub reads : Row → Parser Bool
reads (fixed t k) = map (λ _. k) (tag t)
reads (undashed t k) = map (λ _. k) (preceded (tag t) (is_not missing_byte (bytes "-")))

-- alt((..)): the first that is there
abbrev pub first_of : List Row → Parser Bool
first_of [] text at = fail other_text
first_of (r ∷ []) text at = reads r text at
first_of (r ∷ q ∷ rs) text at = or_else (reads r text at) (first_of (q ∷ rs) text at)

-- terminated() to prevent matching with #EXT-X-MEDIA-SEQUENCE for which we have a separate pattern below
abbrev pub media_name : Row
media_name = undashed (bytes "#EXT-X-MEDIA") true

-- the first five alternatives
abbrev pub master_names : List Row
master_names =
    fixed (bytes "#EXT-X-STREAM-INF") true
    ∷ fixed (bytes "#EXT-X-I-FRAME-STREAM-INF") true
    ∷ media_name
    ∷ fixed (bytes "#EXT-X-SESSION-KEY") true
    ∷ fixed (bytes "#EXT-X-SESSION-DATA") true
    ∷ []

-- and the thirteen after them: six of a media playlist (RFC 8216, 4.3.3),
abbrev pub playlist_names : List Row
playlist_names =
    fixed (bytes "#EXT-X-TARGETDURATION") false
    ∷ fixed (bytes "#EXT-X-MEDIA-SEQUENCE") false
    ∷ fixed (bytes "#EXT-X-DISCONTINUITY-SEQUENCE") false
    ∷ fixed (bytes "#EXT-X-ENDLIST") false
    ∷ fixed (bytes "#EXT-X-PLAYLIST-TYPE") false
    ∷ fixed (bytes "#EXT-X-I-FRAMES-ONLY") false
    ∷ []

-- and seven of its segments (4.3.2)
abbrev pub segment_names : List Row
segment_names =
    fixed (bytes "#EXTINF") false
    ∷ fixed (bytes "#EXT-X-BYTERANGE") false
    ∷ fixed (bytes "#EXT-X-DISCONTINUITY") false
    ∷ fixed (bytes "#EXT-X-KEY") false
    ∷ fixed (bytes "#EXT-X-MAP") false
    ∷ fixed (bytes "#EXT-X-PROGRAM-DATE-TIME") false
    ∷ fixed (bytes "#EXT-X-DATERANGE") false
    ∷ []

unfoldable pub master_kind : Parser Bool
master_kind = first_of master_names

unfoldable pub playlist_kind : Parser Bool
playlist_kind = first_of playlist_names

unfoldable pub segment_kind : Parser Bool
segment_kind = first_of segment_names

unfoldable pub media_kind : Parser Bool
media_kind = alt playlist_kind segment_kind

-- what a line says: nothing, or master or media, with the place of its `#`
pub data Says : Type 0 where
  nothing : Says
  decides : Bool → ℕ → Says

abbrev pub says : ℕ → Option Bool → Says
says hash none = nothing
says hash (some k) = decides k hash

-- fn is_master_playlist_tag_line = map(tuple((opt(is_a("\r\n")), opt(alt((..))), consume_line)), |(_, tag, _)| tag), "while .. !current_input.is_empty()"
unfoldable pub is_master_playlist_tag_line : Parser Says
is_master_playlist_tag_line =
    peek_take1 >>= λ _.
    skip (bytes "\r\n") >>= λ _.
    place >>= λ hash.
    opt (alt master_kind media_kind) >>= λ k.
    consume_line >>= λ _.
    done (says hash k)

-- "while is_master_opt.is_none()": "The first match whose rest of line can be taken decides; none means media."
pub data Verdict : Type 0 where
  -- with the deciding `#`
  master : ℕ → Verdict
  media : Verdict

abbrev pub or_later : Says → Verdict → Verdict
or_later nothing v = v
or_later (decides true hash) v = master hash
or_later (decides false hash) v = media

unfoldable pub first_said : List Says → Verdict
first_said [] = media
first_said (s ∷ ss) = or_later s (first_said ss)

-- fn contains_master_tag, from behind `#EXTM3U` on
unfoldable pub verdict_from : List ℕ → ℕ → Verdict
verdict_from text at = first_said (items (many0 is_master_playlist_tag_line text at))
