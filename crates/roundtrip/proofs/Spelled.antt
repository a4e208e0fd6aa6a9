-- The text of a list that was read is UTF-8: fixed texts and digits are ASCII, and each part that a line shows was cut out at edges. Assumes nothing.
use Prim.Native.Nat.{ℕ, zero, suc, ◌-◌, ◌/◌, ◌%◌, ◌<◌}
use mathlib.Core.Path.{◌≡◌, refl}
use mathlib.Core.Bool.{Bool, true, false, cond}
use mathlib.Core.List.{List, [], ◌∷◌, ◌++◌, map}
use mathlib.Core.Option.{Option, none, some}
use native.Mathlib.Omega.{arith}
use native.Mathlib.Nat.{mod-lt}
use lib.Dec.{eqb, lit<}
use lib.ListN.{take, drop}
use borrow.Author.Tests.{lt-ltb}
use Rattle.text.specs.Nom.{Span, span, bytes, is_digit, is_none_of}
use Rattle.text.specs.Util.{ByteRange, range}
use Rattle.text.specs.BasicTags.{ExtTag, ext, PlaylistType, event, vod, other}
use Rattle.text.specs.Lines.{unlines}
use Rattle.text.proofs.Ahead.{Every}
use Rattle.text.proofs.Laws.{digit_bounds}
use Rattle.attributes.specs.ExtMap.{Map, ext_map}
use Rattle.tables.specs.Layout.{second}
use Rattle.digits.specs.Digits.{number_text, fraction_by, fraction_text, length_text}
use Rattle.digits.proofs.Number.{number_digits}
use Rattle.digits.proofs.Length.{fraction_digits}
use Rattle.assembly.specs.Assembly.{Head, Clip}
use Rattle.text.specs.Spans.{shown, shown_part}
use Rattle.playlist.specs.Lines.{Line, header_line, independent_segments_line, i_frames_only_line, discontinuity_line, end_list_line, version_line, target_duration_line, media_sequence_line, discontinuity_sequence_line, playlist_type_line, map_line, byte_range_line, unknown_line, extinf_line, uri_line, range_bytes, map_range_bytes, rest_bytes, line_bytes, line_if, line_where, line_unless_zero, type_text, head_lines, map_line_of, tag_line_of, title_text, clip_lines, clips_lines, end_lines, playlist_lines, playlist_text}
use Rattle.records.proofs.Back.{All, all_append}
use Rattle.roundtrip.proofs.Edges.{plain}
use Rattle.roundtrip.proofs.Gives.{If, Part, Shows}
use Rattle.roundtrip.proofs.Values.{SoundType, SoundMap}
use Rattle.roundtrip.proofs.Guaranteed.{all_take, SoundHeadOf, SoundClipOf, SoundTagOf}
use Rattle.roundtrip.proofs.Premised.{all_drop}
use Rattle.tags.specs.Tags.{literal, byte_range_row, discontinuity_row, discontinuity_sequence_row, end_list_row, extinf_row, i_frames_only_row, independent_segments_row, map_row, media_sequence_row, playlist_type_row, target_duration_row, version_row}

-- ---- digits are ASCII
digits_plain : (b : List ℕ) → Every is_digit b → plain b ≡ true
unfolding Every
digits_plain [] h = refl
digits_plain (x ∷ b) h = rw (lt-ltb x 128 (omega (arith, digit_bounds x h.0)), digits_plain b h.1)

module _ (Valid : List ℕ → Type 0) (valid-append : (a b : List ℕ) → Valid a → Valid b → Valid (a ++ b)) (valid-plain : (b : List ℕ) → plain b ≡ true → Valid b) where
  -- ---- the pieces of a line
  number_valid : (n : ℕ) → Valid (number_text n)
  number_valid n = valid-plain (number_text n) (digits_plain (number_text n) (number_digits n))

  fraction_valid : (f : ℕ) → f < second → Valid (fraction_text f)
  unfolding fraction_text
  fraction_valid f h = go (eqb f 0)
    where
      go : (b : Bool) → Valid (cond b [] (46 ∷ fraction_by 9 f))
      go true = valid-plain [] refl
      go false = valid-plain (46 ∷ fraction_by 9 f) (digits_plain (fraction_by 9 f) (fraction_digits 9 f h))

  length_valid : (ns : ℕ) → Valid (length_text ns)
  unfolding length_text
  length_valid ns = valid-append (number_text (ns / second)) (fraction_text (ns % second)) (number_valid (ns / second)) (fraction_valid (ns % second) (mod-lt ns (lit< tt)))

  range_valid : (r : ByteRange) → Valid (range_bytes r)
  range_valid (range n none) = number_valid n
  range_valid (range n (some o)) = valid-append (number_text n) _ (number_valid n) (valid-append (bytes "@") (number_text o) (valid-plain (bytes "@") refl) (number_valid o))

  map_range_valid : (r : Option ByteRange) → Valid (map_range_bytes r)
  map_range_valid none = valid-plain [] refl
  map_range_valid (some r) = valid-append (bytes ",BYTERANGE=\"") _ (valid-plain (bytes ",BYTERANGE=\"") refl) (valid-append (range_bytes r) (bytes "\"") (range_valid r) (valid-plain (bytes "\"") refl))

  rest_valid : (r : Option (List ℕ)) → If Valid r → Valid (rest_bytes r)
  rest_valid none h = valid-plain [] refl
  rest_valid (some r) h = valid-append (bytes ":") r (valid-plain (bytes ":") refl) h

  -- ---- a line whose parts are valid
  abbrev ValidParts : Line → Type 0
  ValidParts header_line = Unit {0}
  ValidParts (version_line n) = Unit {0}
  ValidParts independent_segments_line = Unit {0}
  ValidParts (target_duration_line n) = Unit {0}
  ValidParts (media_sequence_line n) = Unit {0}
  ValidParts (discontinuity_sequence_line n) = Unit {0}
  ValidParts (playlist_type_line t) = Valid t
  ValidParts i_frames_only_line = Unit {0}
  ValidParts (map_line u r) = Valid u
  ValidParts (byte_range_line r) = Unit {0}
  ValidParts discontinuity_line = Unit {0}
  ValidParts (unknown_line name rest) = Valid name × If Valid rest
  ValidParts (extinf_line l t) = Valid t
  ValidParts (uri_line u) = Valid u
  ValidParts end_list_line = Unit {0}

  -- a part between fixed texts
  between : (a b : List ℕ) → plain a ≡ true → Valid b → Valid (a ++ (b ++ bytes "\n"))
  between a b e h = valid-append a (b ++ bytes "\n") (valid-plain a e) (valid-append b (bytes "\n") h (valid-plain (bytes "\n") refl))

  line_valid : (l : Line) → ValidParts l → Valid (line_bytes l)
  line_valid header_line h = valid-plain (bytes "#EXTM3U\n") refl
  line_valid (version_line n) h = between (literal version_row) (number_text n) refl (number_valid n)
  line_valid independent_segments_line h = valid-plain (literal independent_segments_row ++ bytes "\n") refl
  line_valid (target_duration_line n) h = between (literal target_duration_row) (number_text n) refl (number_valid n)
  line_valid (media_sequence_line n) h = between (literal media_sequence_row) (number_text n) refl (number_valid n)
  line_valid (discontinuity_sequence_line n) h = between (literal discontinuity_sequence_row) (number_text n) refl (number_valid n)
  line_valid (playlist_type_line t) h = between (literal playlist_type_row) t refl h
  line_valid i_frames_only_line h = valid-plain (literal i_frames_only_row ++ bytes "\n") refl
  line_valid (map_line u r) h =
      valid-append (literal map_row ++ bytes "URI=\"") _ (valid-plain (literal map_row ++ bytes "URI=\"") refl)
      (valid-append u _ h
      (between (bytes "\"") (map_range_bytes r) refl (map_range_valid r)))
  line_valid (byte_range_line r) h = between (literal byte_range_row) (range_bytes r) refl (range_valid r)
  line_valid discontinuity_line h = valid-plain (literal discontinuity_row ++ bytes "\n") refl
  line_valid (unknown_line name rest) h =
      valid-append (bytes "#EXT-") _ (valid-plain (bytes "#EXT-") refl)
      (valid-append name _ h.0
      (between [] (rest_bytes rest) refl (rest_valid rest h.1)))
  line_valid (extinf_line l t) h =
      valid-append (literal extinf_row) _ (valid-plain (literal extinf_row) refl)
      (valid-append (length_text l) _ (length_valid l)
      (between (bytes ",") t refl h))
  line_valid (uri_line u) h = between [] u refl h
  line_valid end_list_line h = valid-plain (literal end_list_row ++ bytes "\n") refl

  lines_valid : (ls : List Line) → All ValidParts ls → Valid (unlines line_bytes ls)
  unfolding unlines All
  lines_valid [] h = valid-plain [] refl
  lines_valid (l ∷ ls) h = valid-append (line_bytes l) (unlines line_bytes ls) (line_valid l h.0) (lines_valid ls h.1)

  -- ---- the lines of a list
  if_line : {A : Type 0} (line : A → Line) (o : Option A) → If (λ a. ValidParts (line a)) o → All ValidParts (line_if line o)
  unfolding All
  if_line line none h = tt
  if_line line (some a) h = (h, tt)

  where_line : (l : Line) → ValidParts l → (b : Bool) → All ValidParts (line_where l b)
  unfolding All
  where_line l h false = tt
  where_line l h true = (h, tt)

  unless_line : (line : ℕ → Line) → ((n : ℕ) → ValidParts (line n)) → (n : ℕ) → All ValidParts (line_unless_zero line n)
  unfolding All
  unless_line line h zero = tt
  unless_line line h (suc n) = (h (suc n), tt)

  module _ (text : List ℕ) (part-valid : (p : ℕ → Bool) (a b : ℕ) → Part p text a b → Valid (take (b - a) (drop a text))) where
    shown_valid : (p : ℕ → Bool) (s : Span) → Shows p text s → Valid (shown text s)
    shown_valid p (span a b) h = part-valid p a b h

    type_valid : (p : Option PlaylistType) → If (SoundType text) p → If (λ t. ValidParts (playlist_type_line (type_text text t))) p
    type_valid none h = tt
    type_valid (some event) h = valid-plain (bytes "EVENT") refl
    type_valid (some vod) h = valid-plain (bytes "VOD") refl
    type_valid (some (other s)) h = shown_valid (is_none_of (bytes "\r\n")) s h.0

    all_one : (l : Line) → ValidParts l → All ValidParts (l ∷ [])
    unfolding All
    all_one l h = (h, tt)

    head_valid : (h : Head) → SoundHeadOf text h → All ValidParts (head_lines text h)
    unfolding head_lines
    head_valid hd k =
        all_append ValidParts (header_line ∷ []) _ (all_one header_line tt)
        (all_append ValidParts (line_if version_line hd.version) _ (if_line version_line hd.version (version_if hd.version))
        (all_append ValidParts (line_where independent_segments_line hd.independent) _ (where_line independent_segments_line tt hd.independent)
        (all_append ValidParts (target_duration_line hd.target ∷ []) _ (all_one (target_duration_line hd.target) tt)
        (all_append ValidParts (line_unless_zero media_sequence_line hd.sequence) _ (unless_line media_sequence_line (λ _. tt) hd.sequence)
        (all_append ValidParts (line_unless_zero discontinuity_sequence_line hd.discontinuities) _ (unless_line discontinuity_sequence_line (λ _. tt) hd.discontinuities)
        (all_append ValidParts (line_if (λ t. playlist_type_line (type_text text t)) hd.type) _ (if_line (λ t. playlist_type_line (type_text text t)) hd.type (type_valid hd.type k.type))
        (where_line i_frames_only_line tt hd.i_frames)))))))
      where
        version_if : (v : Option ℕ) → If (λ a. ValidParts (version_line a)) v
        version_if none = tt
        version_if (some a) = tt

    map_valid : (m : Option Map) → If (SoundMap text) m → If (λ x. ValidParts (map_line_of text x)) m
    map_valid none h = tt
    map_valid (some (ext_map u r l)) h = shown_valid (is_none_of (bytes "\"")) u h.0

    range_if : (r : Option ByteRange) → If (λ x. ValidParts (byte_range_line x)) r
    range_if none = tt
    range_if (some r) = tt

    rest_if : (r : Option Span) → If (Shows (is_none_of (bytes "\r\n")) text) r → If Valid (shown_part text r)
    rest_if none h = tt
    rest_if (some s) h = shown_valid (is_none_of (bytes "\r\n")) s h

    tags_valid : (ts : List ExtTag) → All (SoundTagOf text) ts → All ValidParts (map (tag_line_of text) ts)
    unfolding All
    tags_valid [] h = tt
    tags_valid (ext name rest ∷ ts) h = ((shown_valid (is_none_of (bytes "\r\n:")) name h.0.0.0, rest_if rest h.0.0.1), tags_valid ts h.1)

    title_valid : (t : Option Span) → If (Shows (is_none_of (bytes "\r\n,")) text) t → Valid (title_text text t)
    title_valid none h = valid-plain [] refl
    title_valid (some s) h = shown_valid (is_none_of (bytes "\r\n,")) s h

    all_two : (l k : Line) → ValidParts l → ValidParts k → All ValidParts (l ∷ k ∷ [])
    unfolding All
    all_two l k h q = (h, (q, tt))

    module _ (tags : List ExtTag) (sound-tags : All (SoundTagOf text) tags) where
      clip_valid : (c : Clip) → SoundClipOf text c → All ValidParts (clip_lines text tags c)
      unfolding clip_lines
      clip_valid c h =
          let s = c.segment in
          let behind = drop c.first_tag tags in
          let run = take c.tag_count behind in
          all_append ValidParts (line_if (map_line_of text) s.map) _ (if_line (map_line_of text) s.map (map_valid s.map h.1.map))
          (all_append ValidParts (line_if byte_range_line s.range) _ (if_line byte_range_line s.range (range_if s.range))
          (all_append ValidParts (line_where discontinuity_line s.discontinuity) _ (where_line discontinuity_line tt s.discontinuity)
          (all_append ValidParts (map (tag_line_of text) run) _ (tags_valid run (all_take (SoundTagOf text) c.tag_count behind (all_drop (SoundTagOf text) c.first_tag tags sound-tags)))
          (all_two (extinf_line s.length (title_text text s.title)) (uri_line (shown text c.uri)) (title_valid s.title h.1.title) (shown_valid (is_none_of (bytes "\r\n")) c.uri h.0.0)))))

      clips_valid : (cs : List Clip) → All (SoundClipOf text) cs → All ValidParts (clips_lines text tags cs)
      unfolding clips_lines All
      clips_valid [] h = tt
      clips_valid (c ∷ cs) h = all_append ValidParts (clip_lines text tags c) (clips_lines text tags cs) (clip_valid c h.0) (clips_valid cs h.1)

    end_valid : (h : Head) → All ValidParts (end_lines h)
    end_valid hd = where_line end_list_line tt hd.ended

    pub playlist_valid : (h : Head) (cs : List Clip) (gs : List ExtTag) → SoundHeadOf text h → All (SoundClipOf text) cs → All (SoundTagOf text) gs → Valid (playlist_text text h cs gs)
    unfolding playlist_text playlist_lines
    playlist_valid h cs gs k q r =
        lines_valid (playlist_lines text h cs gs)
        (all_append ValidParts (head_lines text h) _ (head_valid h k)
        (all_append ValidParts (clips_lines text gs cs) (end_lines h) (clips_valid gs r cs q) (end_valid h)))
