-- The groups of a playlist, one behind the other: the head, a clip, records one by one, the whole. Rests on the laws of lines. Assumes nothing.
use mathlib.Core.Path.{◌≡◌, refl, ap, ◌∙◌}
use mathlib.Core.Bool.{Bool, true, false, cond}
use mathlib.Core.List.{List, [], ◌∷◌, ◌++◌, map}
use Prim.Native.Nat.{ℕ, ◌+◌, ◌-◌, ◌≤◌, ◌<◌, min}
use native.Mathlib.Nat.{min-eq_left, min-eq_right, min-zero}
use native.Mathlib.Omega.{arith}
use lib.Dec.{eqb, leb}
use lib.ListN.{take, drop, drop_of_length-le}
use lib.Seq.{take_all, take-nil}
use borrow.Author.Tests.{leb-true, leb-false}
use Rattle.tables.specs.Table.{listed}
use Rattle.tables.proofs.Listed.{listed_left, listed_over, listed_none, listed_length, listed_drop, listed_take}
use Rattle.assembly.specs.Assembly.{Head, Clip}
use Rattle.records.specs.Records.{clip_at, tag_at, clips_at, tags_at}
use Rattle.text.specs.Spans.{shown}
use Rattle.playlist.specs.Lines.{header_line, version_line, independent_segments_line, target_duration_line, media_sequence_line, discontinuity_sequence_line, i_frames_only_line, byte_range_line, discontinuity_line, extinf_line, uri_line, end_list_line, line_bytes, line_if, line_where, line_unless_zero, lines_text, type_line_of, map_line_of, tag_line_of, title_text, rest_lines, head_lines, clip_lines, clips_lines, end_lines, playlist_lines, playlist_text}
use Rattle.playlist.specs.Calls.{written_text}
use Rattle.playlist.specs.Inside.Texts.{tags_text, run_text, clip_text, clips_text}
use Rattle.playlist.proofs.Lines.{no_line, one_line, more_lines, lines_append, line_where_lem, line_unless_zero_lem}

-- ---- entries of a list that are asked for, as many as there are
listed_part : {A : Type 0} (at : ℕ → A) (f n m : ℕ) → take n (drop f (listed at 0 m)) ≡ listed at f (min n (m - f))
listed_part at f n m = go (leb f m) (leb n (m - f)) refl refl
  where
    go : (a b : Bool) → leb f m ≡ a → leb n (m - f) ≡ b → take n (drop f (listed at 0 m)) ≡ listed at f (min n (m - f))
    go true true p q =
        let l : n ≤ m - f = leb-true n (m - f) q in
        let e : m - f ≡ n + (m - f - n) = omega arith in
        rw (listed_drop at f m (leb-true f m p), min-eq_left l) (ap (λ (k : ℕ). take n (listed at f k)) e ∙ listed_take at f n (m - f - n))
    go true false p q =
        let l : m - f < n = leb-false n (m - f) q in
        rw (listed_drop at f m (leb-true f m p), min-eq_right {n = m - f} {m = n} (omega arith)) (take_all n (listed at f (m - f)) (omega (arith, listed_length at f (m - f))))
    go false b p q =
        let l : m < f = leb-false f m p in
        let z : m - f ≡ 0 = omega arith in
        rw (drop_of_length-le (listed at 0 m) {i = f} (omega (arith, listed_length at 0 m)), take-nil n, z, min-zero n, listed_none at f)

-- ---- a head
module _ (text : List ℕ) (hd : Head) where
  -- its lines behind the target
  pub rest_text : lines_text (rest_lines text hd)
      ≡ cond (eqb hd.sequence 0) [] (line_bytes (media_sequence_line hd.sequence))
      ++ (cond (eqb hd.discontinuities 0) [] (line_bytes (discontinuity_sequence_line hd.discontinuities))
      ++ (lines_text (line_if (type_line_of text) hd.type)
      ++ cond hd.i_frames (line_bytes i_frames_only_line) []))
  rest_text =
      let frames = line_where i_frames_only_line hd.i_frames in
      let types = line_if (type_line_of text) hd.type in
      let second = line_unless_zero discontinuity_sequence_line hd.discontinuities in
      rw (
        lines_append (line_unless_zero media_sequence_line hd.sequence) (second ++ (types ++ frames)),
        lines_append second (types ++ frames),
        lines_append types frames,
        line_unless_zero_lem media_sequence_line hd.sequence,
        line_unless_zero_lem discontinuity_sequence_line hd.discontinuities,
        line_where_lem i_frames_only_line hd.i_frames,
      )

  pub head_text : lines_text (head_lines text hd)
      ≡ line_bytes header_line
      ++ (lines_text (line_if version_line hd.version)
      ++ (cond hd.independent (line_bytes independent_segments_line) []
      ++ (line_bytes (target_duration_line hd.target)
      ++ lines_text (rest_lines text hd))))
  unfolding head_lines
  head_text =
      let versions = line_if version_line hd.version in
      let marks = line_where independent_segments_line hd.independent in
      let target = target_duration_line hd.target ∷ rest_lines text hd in
      rw (
        more_lines header_line (versions ++ (marks ++ target)),
        lines_append versions (marks ++ target),
        lines_append marks target,
        line_where_lem independent_segments_line hd.independent,
        more_lines (target_duration_line hd.target) (rest_lines text hd),
      )

-- ---- a clip
pub clip_text_lem : (text tags : List ℕ) (count : ℕ) (c : Clip) →
    (let s = c.segment in
    clip_text text tags count c
    ≡ lines_text (line_if (map_line_of text) s.map)
    ++ (lines_text (line_if byte_range_line s.range)
    ++ (cond s.discontinuity (line_bytes discontinuity_line) []
    ++ (run_text text tags count c.first_tag c.tag_count
    ++ (line_bytes (extinf_line s.length (title_text text s.title))
    ++ line_bytes (uri_line (shown text c.uri)))))))
unfolding clip_lines
clip_text_lem text tags count c =
    let s = c.segment in
    let ranges = line_if byte_range_line s.range in
    let marks = line_where discontinuity_line s.discontinuity in
    let others = map (tag_line_of text) (take c.tag_count (drop c.first_tag (tags_at tags count))) in
    let e = extinf_line s.length (title_text text s.title) in
    let w = uri_line (shown text c.uri) in
    rw (
      lines_append (line_if (map_line_of text) s.map) (ranges ++ (marks ++ (others ++ (e ∷ w ∷ [])))),
      lines_append ranges (marks ++ (others ++ (e ∷ w ∷ []))),
      lines_append marks (others ++ (e ∷ w ∷ [])),
      lines_append others (e ∷ w ∷ []),
      line_where_lem discontinuity_line s.discontinuity,
      more_lines e (w ∷ []),
      one_line w,
    )

-- a run: what there is of it, from tag f on
pub run_text_lem : (text tags : List ℕ) (m f n : ℕ) → run_text text tags m f n ≡ tags_text text tags f (min n (m - f))
run_text_lem text tags m f n = ap (λ l. lines_text (map (tag_line_of text) l)) (listed_part (tag_at tags) f n m)

-- ---- records one by one: those that are left from record k up to record e
module _ (text tags : List ℕ) where
  pub tags_next : (k e : ℕ) → k < e → tags_text text tags k (e - k) ≡ line_bytes (tag_line_of text (tag_at tags k)) ++ tags_text text tags (k + 1) (e - (k + 1))
  tags_next k e h = ap (λ l. lines_text (map (tag_line_of text) l)) (listed_left (tag_at tags) k e h) ∙ more_lines _ _

  pub tags_over : (k e : ℕ) → e ≤ k → tags_text text tags k (e - k) ≡ []
  tags_over k e h = ap (λ l. lines_text (map (tag_line_of text) l)) (listed_over (tag_at tags) k e h) ∙ no_line

  module _ (m : ℕ) (clips : List ℕ) where
    pub clips_next : (k e : ℕ) → k < e → clips_text text tags m clips k (e - k) ≡ clip_text text tags m (clip_at clips k) ++ clips_text text tags m clips (k + 1) (e - (k + 1))
    unfolding clips_lines
    clips_next k e h = ap (λ l. lines_text (clips_lines text (tags_at tags m) l)) (listed_left (clip_at clips) k e h) ∙ lines_append (clip_lines text (tags_at tags m) (clip_at clips k)) _

    pub clips_over : (k e : ℕ) → e ≤ k → clips_text text tags m clips k (e - k) ≡ []
    unfolding clips_lines
    clips_over k e h = ap (λ l. lines_text (clips_lines text (tags_at tags m) l)) (listed_over (clip_at clips) k e h) ∙ no_line

-- ---- all of it
pub written_text_lem : (text : List ℕ) (h : Head) (clips : List ℕ) (n : ℕ) (tags : List ℕ) (m : ℕ) → written_text text h clips n tags m
    ≡ lines_text (head_lines text h) ++ (clips_text text tags m clips 0 n ++ cond h.ended (line_bytes end_list_line) [])
unfolding written_text playlist_text playlist_lines
written_text_lem text h clips n tags m =
    let lines = clips_lines text (tags_at tags m) (clips_at clips n) in
    rw (lines_append (head_lines text h) (lines ++ end_lines h), lines_append lines (end_lines h), line_where_lem end_list_line h.ended)
