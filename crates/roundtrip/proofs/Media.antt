-- The text of a list begins with the header, and its verdict is media: the lines before its target duration say nothing, and that one decides. Assumes nothing.
use Prim.Native.Nat.{ℕ, ◌+◌}
use mathlib.Core.Path.{◌≡◌, refl, ◌∙◌, ap}
use mathlib.Core.Bool.{Bool, true, false}
use mathlib.Core.List.{List, [], ◌∷◌, ◌++◌, append_assoc}
use mathlib.Core.Option.{Option, none, some}
use native.Mathlib.Omega.{arith}
use lib.Dec.{ltb}
use lib.ListN.{length, drop, get_or, length-append, length-drop}
use borrow.Author.Tests.{ne_eqb, lt-ltb}
use Rattle.text.specs.Why.{other_text}
use Rattle.text.specs.Nom.{fail, ok, bytes, is_one_of, is_none_of, begins, tagged, alt}
use Rattle.text.specs.BasicTags.{ExtTag, PlaylistType}
use Rattle.text.specs.Lines.{unlines}
use Rattle.text.proofs.Ahead.{Every, every_append, on, run_ahead, tag_ahead, line_ahead}
use Rattle.digits.specs.Digits.{number_text}
use Rattle.verdict.specs.Verdict.{literal as nameText, media_name, playlist_names, master_kind, media_kind, playlist_kind, segment_kind, nothing, decides, is_master_playlist_tag_line, media, verdict_from}
use Rattle.verdict.specs.Calls.{header, verdict_of}
use Rattle.verdict.proofs.FirstSaid.{verdict_step}
use Rattle.assembly.specs.Assembly.{Head, head, Clip}
use Rattle.playlist.specs.Lines.{Line, independent_segments_line, version_line, target_duration_line, line_bytes, line_if, line_where, head_lines, playlist_text}
use Rattle.roundtrip.specs.Premises.{all}
use Rattle.roundtrip.proofs.Told.{body_lines}
use Rattle.roundtrip.proofs.Steps.{every_all}
use Rattle.roundtrip.proofs.Numbers.{number_every}
use Rattle.roundtrip.proofs.Fitting.{playlist_text_lem}
use Rattle.tags.specs.Tags.{literal, independent_segments_row, version_row}

abbrev is_break : ℕ → Bool
is_break = is_one_of (bytes "\r\n")

abbrev in_line : ℕ → Bool
in_line = is_none_of (bytes "\r\n")

-- a number stays within its line
number_in_line : (n : ℕ) → Every in_line (number_text n)
number_in_line n = number_every in_line (λ x h. rw (ne_eqb 13 x (λ e. omega arith), ne_eqb 10 x (λ e. omega arith))) n

-- ---- a line, perhaps behind breaks
module _ (text : List ℕ) (at : ℕ) (nl : List ℕ) (breaks : Every is_break nl) (b xs : List ℕ) (within : Every in_line b) where
  there : (r : List ℕ) → drop at text ≡ nl ++ (35 ∷ r) → ltb at (length text) ≡ true
  there r d = lt-ltb at (length text) (omega (arith, length-drop at text, ap length d, length-append nl (35 ∷ r)))

  -- a line that no tag begins says nothing
  line_quiet : drop at text ≡ nl ++ (35 ∷ b ++ (bytes "\n" ++ xs))
      → ((m : ℕ) → drop m text ≡ 35 ∷ b ++ (bytes "\n" ++ xs) → alt master_kind media_kind text m ≡ fail other_text) → is_master_playlist_tag_line text at ≡ ok nothing (at + length nl + length (35 ∷ b) + 1)
  unfolding is_master_playlist_tag_line Every
  line_quiet d unknown =
      let m = at + length nl in
      let h = on text at nl _ d in
      rw (there _ d, run_ahead text at is_break nl _ breaks refl d, unknown m h, line_ahead text m (35 ∷ b) xs (refl, within) h)

  after_line : drop at text ≡ nl ++ (35 ∷ b ++ (bytes "\n" ++ xs)) → drop (at + length nl + length (35 ∷ b) + 1) text ≡ xs
  after_line d = on text (at + length nl + length (35 ∷ b)) (bytes "\n") xs (on text (at + length nl) (35 ∷ b) _ (on text at nl _ d))

  -- a line that a tag of media playlists begins decides
  line_decides : (t : List ℕ) → drop at text ≡ nl ++ (35 ∷ t ++ (b ++ (bytes "\n" ++ xs)))
      → ((m : ℕ) → drop m text ≡ 35 ∷ t ++ (b ++ (bytes "\n" ++ xs)) → alt master_kind media_kind text m ≡ ok false (m + length (35 ∷ t)))
      → is_master_playlist_tag_line text at ≡ ok (decides false (at + length nl)) (at + length nl + length (35 ∷ t) + length b + 1)
  unfolding is_master_playlist_tag_line
  line_decides t d known =
      let m = at + length nl in
      let h = on text at nl _ d in
      rw (there _ d, run_ahead text at is_break nl _ breaks refl d, known m h, line_ahead text (m + length (35 ∷ t)) b xs within (on text m (35 ∷ t) _ h))

-- ---- what the tags of the verdict make of the lines that may stand first
-- the name that the target duration has there: the first of those that say media
abbrev target_name : List ℕ
target_name = nameText (get_or playlist_names 0 media_name)

module _ (text : List ℕ) (at : ℕ) (xs : List ℕ) where
  at_version : drop at text ≡ literal version_row ++ xs → alt master_kind media_kind text at ≡ fail other_text
  unfolding master_kind media_kind playlist_kind segment_kind tagged begins
  at_version h = rw h

  at_independent : drop at text ≡ literal independent_segments_row ++ xs → alt master_kind media_kind text at ≡ fail other_text
  unfolding master_kind media_kind playlist_kind segment_kind tagged begins
  at_independent h = rw h

  at_target : drop at text ≡ target_name ++ xs → alt master_kind media_kind text at ≡ ok false (at + length target_name)
  unfolding master_kind media_kind playlist_kind segment_kind tagged begins
  at_target h = rw h

-- ---- the lines of a head up to its target duration
module _ (text : List ℕ) (d : ℕ) (rest : List Line) where
  target_media : (at : ℕ) (nl : List ℕ) → Every is_break nl → drop at text ≡ nl ++ unlines line_bytes (target_duration_line d ∷ rest) → verdict_from text at ≡ media
  unfolding unlines Every
  target_media at nl breaks h =
      let xs = unlines line_bytes rest in
      let t = drop 1 target_name in
      let h0 : drop at text ≡ nl ++ (35 ∷ t ++ ((58 ∷ number_text d) ++ (bytes "\n" ++ xs))) = h ∙ rw (append_assoc (number_text d) (bytes "\n") xs) in
      verdict_step text at _ _ (line_decides text at nl breaks (58 ∷ number_text d) xs (refl, number_in_line d) t h0 (λ m. at_target text m _))

  independent_media : (n : Bool) (at : ℕ) (nl : List ℕ) → Every is_break nl → drop at text ≡ nl ++ unlines line_bytes (line_where independent_segments_line n ++ target_duration_line d ∷ rest) → verdict_from text at ≡ media
  unfolding unlines all Every
  independent_media false at nl breaks h = target_media at nl breaks h
  independent_media true at nl breaks h =
      let b = drop 1 (literal independent_segments_row) in
      let e = every_all in_line b refl in
      let q = line_quiet text at nl breaks b _ e h (λ m. at_independent text m _) in
      verdict_step text at _ _ q ∙ target_media _ [] tt (after_line text at nl breaks b _ e h)

  version_media : (v : Option ℕ) (n : Bool) (at : ℕ) (nl : List ℕ) → Every is_break nl
      → drop at text ≡ nl ++ unlines line_bytes (line_if version_line v ++ (line_where independent_segments_line n ++ target_duration_line d ∷ rest)) → verdict_from text at ≡ media
  unfolding unlines all Every
  version_media none n at nl breaks h = independent_media n at nl breaks h
  version_media (some v) n at nl breaks h =
      let b = drop 1 (literal version_row) in
      let e = every_append in_line b (number_text v) (every_all in_line b refl) (number_in_line v) in
      let xs = unlines line_bytes (line_where independent_segments_line n ++ target_duration_line d ∷ rest) in
      let h0 : drop at text ≡ nl ++ (35 ∷ (b ++ number_text v) ++ (bytes "\n" ++ xs)) = h ∙ rw (append_assoc (number_text v) (bytes "\n") xs) in
      let q = line_quiet text at nl breaks (b ++ number_text v) _ e h0 (λ m. at_version text m _) in
      verdict_step text at _ _ q ∙ independent_media n _ [] tt (after_line text at nl breaks (b ++ number_text v) _ e h0)

-- ---- the text of a list
-- its lines begin so
lines_begin : (text : List ℕ) (v : Option ℕ) (d m c : ℕ) (p : Option PlaylistType) (e i n : Bool) (cs : List Clip) (tags : List ExtTag)
    → (rest : List Line) × (body_lines text (head v d m c p e i n) cs tags ≡ line_if version_line v ++ (line_where independent_segments_line n ++ target_duration_line d ∷ rest))
unfolding body_lines head_lines
lines_begin text none d m c p e i false cs tags = (_, refl)
lines_begin text none d m c p e i true cs tags = (_, refl)
lines_begin text (some v) d m c p e i false cs tags = (_, refl)
lines_begin text (some v) d m c p e i true cs tags = (_, refl)

module _ (text : List ℕ) where
  -- it is media, whatever the list
  pub verdict_media : (h : Head) (cs : List Clip) (tags : List ExtTag) → verdict_of (playlist_text text h cs tags) ≡ media
  unfolding verdict_of Every
  verdict_media hd cs tags =
      let w = playlist_text text hd cs tags in
      let b = lines_begin text hd.version hd.target hd.sequence hd.discontinuities hd.type hd.ended hd.i_frames hd.independent cs tags in
      version_media w hd.target b.0 hd.version hd.independent 7 (bytes "\n") (refl, tt) (ap (drop 7) (playlist_text_lem text _ cs tags) ∙ ap (λ (ls : List Line). bytes "\n" ++ unlines line_bytes ls) b.1)

  -- and the header is there
  pub header_there : (h : Head) (cs : List Clip) (tags : List ExtTag) → tagged header (playlist_text text h cs tags) 0 ≡ true
  header_there h cs tags = tag_ahead (playlist_text text h cs tags) 0 header _ (playlist_text_lem text h cs tags)
