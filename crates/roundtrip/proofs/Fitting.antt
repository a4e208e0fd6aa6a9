-- The lines of a list fit, where its parts are clean: behind each line stands `#`, or a URI behind its EXTINF, or nothing. Assumes nothing.
use Prim.Native.Nat.{ℕ, zero, suc, ◌^◌, ◌<◌}
use mathlib.Core.Path.{◌≡◌, refl, sym, ◌∙◌, ap}
use mathlib.Core.Bool.{Bool, true, false}
use mathlib.Core.List.{List, [], ◌∷◌, ◌++◌, map as map_list, append_assoc}
use mathlib.Core.Option.{Option, none, some}
use lib.ListN.{length, take, drop}
use Rattle.text.specs.Nom.{bytes, begins, is_multispace}
use Rattle.text.specs.BasicTags.{ExtTag, ext, PlaylistType, event, vod, other}
use Rattle.text.specs.Lines.{unlines, AllFit}
use Rattle.text.proofs.Ahead.{Stops}
use Rattle.attributes.specs.ExtMap.{Map, ext_map}
use Rattle.assembly.specs.Assembly.{Head, Clip}
use Rattle.media.specs.Calls.{steps_of, stop_of}
use Rattle.text.specs.Spans.{shown}
use Rattle.playlist.specs.Lines.{Line, header_line, independent_segments_line, i_frames_only_line, discontinuity_line, end_list_line, version_line, target_duration_line, media_sequence_line, discontinuity_sequence_line, playlist_type_line, byte_range_line, extinf_line, uri_line, line_bytes, line_if, line_where, line_unless_zero, type_text, head_lines, map_line_of, tag_line_of, title_text, clip_lines, clips_lines, end_lines, playlist_text}
use Rattle.records.proofs.Back.{All}
use Rattle.roundtrip.specs.Premises.{all}
use Rattle.roundtrip.proofs.Said.{taken_says, line_says, NumbersFit, Clean, Behind, Fits}
use Rattle.roundtrip.proofs.Told.{body_lines, header_first}
use Rattle.roundtrip.proofs.Gives.{If}
use Rattle.roundtrip.proofs.Steps.{every_all}
use Rattle.roundtrip.proofs.Written.{none_blank, steps_say, stops_at_end}

-- ---- what lines ask, but for blanks: those follow
abbrev Asks : Line → List ℕ → Type 0
Asks l xs = Clean l × Behind l xs

abbrev AllAsk : List Line → List ℕ → Type 0
AllAsk ls xs = AllFit line_bytes Asks ls xs

asks_fit : (ls : List Line) (xs : List ℕ) → Stops is_multispace xs → AllAsk ls xs → AllFit line_bytes Fits ls xs
unfolding AllFit
asks_fit [] xs s h = tt
asks_fit (l ∷ ls) xs s h = ((h.0.0, (none_blank Asks (λ l xs a. a.0) ls xs s h.1, h.0.1)), asks_fit ls xs s h.1)

unlines_append : (a b : List Line) → unlines line_bytes (a ++ b) ≡ unlines line_bytes a ++ unlines line_bytes b
unfolding unlines
unlines_append [] b = refl
unlines_append (l ∷ a) b = ap (λ (r : List ℕ). line_bytes l ++ r) (unlines_append a b) ∙ sym (append_assoc (line_bytes l) (unlines line_bytes a) (unlines line_bytes b))

asks_append : (a b : List Line) (xs : List ℕ) → AllAsk a (unlines line_bytes b ++ xs) → AllAsk b xs → AllAsk (a ++ b) xs
unfolding AllFit
asks_append [] b xs h k = k
asks_append (l ∷ a) b xs h k = (rw (unlines_append a b, append_assoc (unlines line_bytes a) (unlines line_bytes b) xs) h.0, asks_append a b xs h.1 k)

-- ---- the lines that ask nothing of what follows, for each way in which there may be one
abbrev Easy : Line → Type 0
Easy l = (xs : List ℕ) → Behind l xs

module _ (xs : List ℕ) where
  asks_one : (l : Line) → Easy l → Clean l → AllAsk (l ∷ []) xs
  unfolding AllFit unlines
  asks_one l b c = ((c, b xs), tt)

  asks_if : {A : Type 0} (line : A → Line) → ((a : A) → Easy (line a)) → (o : Option A) → If (λ a. Clean (line a)) o → AllAsk (line_if line o) xs
  unfolding AllFit
  asks_if line b none c = tt
  asks_if line b (some a) c = asks_one (line a) (b a) c

  asks_where : (l : Line) → Easy l → Clean l → (w : Bool) → AllAsk (line_where l w) xs
  unfolding AllFit
  asks_where l b c false = tt
  asks_where l b c true = asks_one l b c

  asks_unless_zero : (line : ℕ → Line) → ((n : ℕ) → Easy (line n)) → (n : ℕ) → Clean (line n) → AllAsk (line_unless_zero line n) xs
  unfolding AllFit
  asks_unless_zero line b zero c = tt
  asks_unless_zero line b (suc n) c = asks_one (line (suc n)) (b (suc n)) c

-- ---- a head
abbrev pub CleanType : List ℕ → PlaylistType → Type 0
CleanType text event = Unit {0}
CleanType text vod = Unit {0}
CleanType text (other s) = Clean (playlist_type_line (shown text s))

type_clean : (text : List ℕ) (t : PlaylistType) → CleanType text t → Clean (playlist_type_line (type_text text t))
unfolding all
type_clean text event c = (tt, every_all _ (bytes "EVENT") refl)
type_clean text vod c = (tt, every_all _ (bytes "VOD") refl)
type_clean text (other s) c = c

if_too : {A : Type 0} (P Q : A → Type 0) → ((a : A) → P a → Q a) → (o : Option A) → If P o → If Q o
if_too P Q f none h = tt
if_too P Q f (some a) h = f a h

-- its numbers and its type
pub record CleanParts (text : List ℕ) (v : Option ℕ) (d m c : ℕ) (p : Option PlaylistType) : Type 0 where
  pub version : If (λ n. n < 2 ^ 64) v
  pub target : d < 2 ^ 64
  pub sequence : m < 2 ^ 64
  pub discontinuities : c < 2 ^ 64
  pub type : If (CleanType text) p

abbrev pub CleanHead : List ℕ → Head → Type 0
CleanHead text hd = CleanParts text hd.version hd.target hd.sequence hd.discontinuities hd.type

asks_head : (text : List ℕ) (h : Head) → CleanHead text h → (xs : List ℕ) → AllAsk (drop 1 (head_lines text h)) xs
unfolding head_lines
asks_head text hd k xs =
    asks_append (line_if version_line hd.version) _ xs (asks_if _ version_line (λ _ _. tt) hd.version k.version)
    (asks_append (line_where independent_segments_line hd.independent) _ xs (asks_where _ independent_segments_line (λ _. tt) tt hd.independent)
    (asks_append (target_duration_line hd.target ∷ []) _ xs (asks_one _ (target_duration_line hd.target) (λ _. tt) k.target)
    (asks_append (line_unless_zero media_sequence_line hd.sequence) _ xs (asks_unless_zero _ media_sequence_line (λ _ _. tt) hd.sequence k.sequence)
    (asks_append (line_unless_zero discontinuity_sequence_line hd.discontinuities) _ xs (asks_unless_zero _ discontinuity_sequence_line (λ _ _. tt) hd.discontinuities k.discontinuities)
    (asks_append (line_if (λ t. playlist_type_line (type_text text t)) hd.type) _ xs (asks_if _ (λ t. playlist_type_line (type_text text t)) (λ _ _. tt) hd.type (if_too _ _ (type_clean text) hd.type k.type))
    (asks_where xs i_frames_only_line (λ _. tt) tt hd.i_frames))))))

-- ---- a clip: its parts, with those of the unknown tags that are its own
pub record CleanClip (text : List ℕ) (all_tags : List ExtTag) (c : Clip) : Type 0 where
  pub map : If (λ x. Clean (map_line_of text x)) c.segment.map
  pub range : If NumbersFit c.segment.range
  pub tags : All (λ x. Clean (tag_line_of text x)) (take c.tag_count (drop c.first_tag all_tags))
  pub length : Clean (extinf_line c.segment.length (title_text text c.segment.title))
  pub uri : Clean (uri_line (shown text c.uri))
  -- "no URI begins with a comma"
  pub no_comma : begins (bytes ",") (shown text c.uri) ≡ false

-- the URI stands behind its EXTINF
asks_uri : (l : ℕ) (t u xs : List ℕ) → Clean (extinf_line l t) → Clean (uri_line u) → begins (bytes ",") u ≡ false → AllAsk (extinf_line l t ∷ uri_line u ∷ []) xs
unfolding AllFit unlines begins
asks_uri l t [] xs c k q = absurd k.0
asks_uri l t (x ∷ u) xs c k q = ((c, q), ((k, tt), tt))

module _ (text : List ℕ) where
  map_easy : (m : Map) → Easy (map_line_of text m)
  map_easy (ext_map u r l) xs = tt

  asks_tags : (ts : List ExtTag) (xs : List ℕ) → All (λ x. Clean (tag_line_of text x)) ts → AllAsk (map_list (tag_line_of text) ts) xs
  unfolding AllFit All
  asks_tags [] xs c = tt
  asks_tags (ext name rest ∷ ts) xs c = ((c.0, tt), asks_tags ts xs c.1)

  module _ (tags : List ExtTag) where
    asks_clip : (c : Clip) → CleanClip text tags c → (xs : List ℕ) → AllAsk (clip_lines text tags c) xs
    unfolding clip_lines
    asks_clip c k xs =
        let s = c.segment in
        let run = take c.tag_count (drop c.first_tag tags) in
        asks_append (line_if (map_line_of text) s.map) _ xs (asks_if _ (map_line_of text) map_easy s.map k.map)
        (asks_append (line_if byte_range_line s.range) _ xs (asks_if _ byte_range_line (λ _ _. tt) s.range k.range)
        (asks_append (line_where discontinuity_line s.discontinuity) _ xs (asks_where _ discontinuity_line (λ _. tt) tt s.discontinuity)
        (asks_append (map_list (tag_line_of text) run) _ xs (asks_tags run _ k.tags)
        (asks_uri s.length (title_text text s.title) (shown text c.uri) xs k.length k.uri k.no_comma))))

    asks_clips : (cs : List Clip) → All (CleanClip text tags) cs → (xs : List ℕ) → AllAsk (clips_lines text tags cs) xs
    unfolding clips_lines AllFit All
    asks_clips [] k xs = tt
    asks_clips (c ∷ cs) k xs = asks_append (clip_lines text tags c) (clips_lines text tags cs) xs (asks_clip c k.0 _) (asks_clips cs k.1 xs)

-- ---- a list
asks_end : (h : Head) (xs : List ℕ) → AllAsk (end_lines h) xs
asks_end hd xs = asks_where xs end_list_line (λ _. tt) tt hd.ended

-- its text is the header and its lines behind that
pub playlist_text_lem : (text : List ℕ) (h : Head) (cs : List Clip) (tags : List ExtTag) → playlist_text text h cs tags ≡ line_bytes header_line ++ unlines line_bytes (body_lines text h cs tags)
unfolding playlist_text unlines
playlist_text_lem text h cs tags = ap (unlines line_bytes) (header_first text h cs tags)

module _ (text : List ℕ) (h : Head) (cs : List Clip) (tags : List ExtTag) (clean-head : CleanHead text h) (clean-clips : All (CleanClip text tags) cs) where
  pub lines_fit : AllFit line_bytes Fits (body_lines text h cs tags) []
  unfolding body_lines
  lines_fit =
      asks_fit (body_lines text h cs tags) [] tt
      (asks_append (drop 1 (head_lines text h)) _ [] (asks_head text h clean-head _)
      (asks_append (clips_lines text tags cs) (end_lines h) [] (asks_clips text tags cs clean-clips _)
      (asks_end h [])))

  -- so its text is read line by line, up to its end
  pub playlist_says : (let w = playlist_text text h cs tags in map_list (taken_says w) (steps_of w) ≡ map_list line_says (body_lines text h cs tags))
  playlist_says = steps_say (playlist_text text h cs tags) (body_lines text h cs tags) (playlist_text_lem text h cs tags) lines_fit

  pub playlist_stops : stop_of (playlist_text text h cs tags) ≡ length (playlist_text text h cs tags)
  playlist_stops = stops_at_end (playlist_text text h cs tags) (body_lines text h cs tags) (playlist_text_lem text h cs tags) lines_fit
