-- Sizes are lengths: of what spans show, of lines that may be missing, of the lines that hold parts of the text, and of head, clips and the whole.
-- Assumes nothing.
use mathlib.Core.Path.{◌≡◌, refl, ap, ◌∙◌}
use mathlib.Core.Bool.{Bool, true, false, cond}
use mathlib.Core.List.{List, [], ◌∷◌, ◌++◌, map}
use mathlib.Core.Option.{Option, none, some}
use Prim.Native.Nat.{ℕ, zero, suc, ◌+◌, ◌-◌, ◌≤◌}
use native.Mathlib.Omega.{arith}
use lib.Dec.{eqb}
use lib.ListN.{length, drop, length-append, length-drop}
use lib.Seq.{length-take-le}
use Rattle.text.specs.Nom.{Span, span, bytes}
use Rattle.text.specs.Util.{ByteRange}
use Rattle.text.specs.BasicTags.{ExtTag, ext, PlaylistType, event, vod, other}
use Rattle.text.specs.Spans.{shown, shown_part}
use Rattle.attributes.specs.ExtMap.{Map, ext_map}
use Rattle.digits.specs.Digits.{number_text, length_text}
use Rattle.tables.specs.Layout as layout
use Rattle.tables.specs.Table.{listed, clip_word}
use Rattle.tables.proofs.Listed.{listed_run}
use Rattle.tags.specs.Tags.{literal, byte_range_row}
use Rattle.assembly.specs.Assembly.{Head, Clip}
use Rattle.records.specs.Records.{clip_at, tag_at, tags_at}
use Rattle.rule9.specs.Rule9.{keeps_rule}
use Rattle.playlist.specs.Lines.{Line, map_line, extinf_line, uri_line, independent_segments_line, media_sequence_line, discontinuity_sequence_line, i_frames_only_line, discontinuity_line, byte_range_line, end_list_line, range_bytes, map_range_bytes, rest_bytes, line_bytes, line_if, line_where, line_unless_zero, lines_text, type_line_of, map_line_of, tag_line_of, title_text, head_lines, clip_lines, clips_lines}
use Rattle.playlist.specs.Calls.{written_text}
use Rattle.playlist.specs.Inside.Texts.{tags_text, clip_text, clips_text}
use Rattle.playlist.proofs.Lines.{no_line, one_line, more_lines, lines_append, line_where_lem, line_unless_zero_lem}
use Rattle.playlist.proofs.Groups.{rest_text, head_text, clip_text_lem, written_text_lem}
use Rattle.measure.proofs.Rule.{type_below, clips_below, tags_below, runs_within}
use Rattle.measure.specs.Inside.Below.{SpanBelow, PartBelow, TypeBelow, MapBelow, TagBelow, ClipBelow, TagsBelow, ClipsBelow, RunsWithin}
use Rattle.measure.specs.Inside.Sizes.{span_size, part_size, range_size, type_size, head_size, map_size, tag_size, clip_size, tags_size, full_size, clips_size, whole_size}

-- ---- lines that may be missing
pub one_long : (l : Line) → length (lines_text (l ∷ [])) ≡ length (line_bytes l)
one_long l = ap length (one_line l)

cond_long : (b : Bool) (x y : List ℕ) → length (cond b x y) ≡ cond b (length x) (length y)
cond_long true x y = refl
cond_long false x y = refl

pub where_long : (l : Line) (b : Bool) → length (lines_text (line_where l b)) ≡ cond b (length (line_bytes l)) 0
where_long l b = ap length (line_where_lem l b) ∙ cond_long b (line_bytes l) []

-- a number behind fixed bytes, unless it is 0
pub unless_zero_long : (line : ℕ → Line) (fixed : List ℕ) (n : ℕ) → line_bytes (line n) ≡ fixed ++ (number_text n ++ bytes "\n")
    → length (lines_text (line_unless_zero line n)) ≡ cond (eqb n 0) 0 (length (fixed ++ bytes "\n") + length (number_text n))
unless_zero_long line fixed n e =
    let k : length (line_bytes (line n)) ≡ length (fixed ++ bytes "\n") + length (number_text n) =
    omega (arith, simp length-append at (ap length e), length-append fixed (bytes "\n")) in
    ap length (line_unless_zero_lem line n) ∙ cond_long (eqb n 0) [] (line_bytes (line n)) ∙ ap (cond (eqb n 0) 0) k

-- ---- ranges
pub map_range_long : (r : Option ByteRange) → length (map_range_bytes r) ≡ range_size (length (bytes ",BYTERANGE=\"\"")) r
map_range_long none = refl
map_range_long (some r) = omega (arith, length-append (range_bytes r) (bytes "\""))

pub range_long : (r : Option ByteRange) → length (lines_text (line_if byte_range_line r)) ≡ range_size (length (literal byte_range_row ++ bytes "\n")) r
range_long none = ap length no_line
range_long (some r) = omega (arith, one_long (byte_range_line r), length-append (range_bytes r) (bytes "\n"))

-- ---- records one by one
pub tags_none : tags_size [] ≡ 0
unfolding tags_size
tags_none = refl

pub tags_more : (t : ExtTag) (ts : List ExtTag) → tags_size (t ∷ ts) ≡ tag_size t + tags_size ts
unfolding tags_size
tags_more t ts = refl

pub clips_none : (tags : List ℕ) → clips_size tags [] ≡ 0
unfolding clips_size
clips_none tags = refl

pub clips_more : (tags : List ℕ) (c : Clip) (cs : List Clip) → clips_size tags (c ∷ cs) ≡ full_size tags c + clips_size tags cs
unfolding clips_size
clips_more tags c cs = refl

-- where a clip's run of unknown tags ends
abbrev run_end_lem : Clip → ℕ
run_end_lem c = c.first_tag + c.tag_count

run_end : {m : ℕ} (clips : List ℕ) (k : ℕ) → clip_word clips k layout.first_tag + clip_word clips k layout.tag_count ≤ m → run_end_lem (clip_at clips k) ≤ m
unfolding clip_at
run_end clips k h = h

-- ---- lines that hold parts of the text
module _ (text : List ℕ) where
  shown_long : (s : Span) → SpanBelow (length text) s → length (shown text s) ≡ span_size s
  shown_long (span a b) h = length-take-le (b - a) (drop a text) (omega (arith, h, length-drop a text))

  title_long : (p : Option Span) → PartBelow (length text) p → length (title_text text p) ≡ part_size 0 p
  title_long none h = refl
  title_long (some s) h = omega (arith, shown_long s h)

  rest_long : (p : Option Span) → PartBelow (length text) p → length (rest_bytes (shown_part text p)) ≡ part_size 1 p
  rest_long none h = refl
  rest_long (some s) h = omega (arith, shown_long s h)

  type_long : (t : Option PlaylistType) → TypeBelow (length text) t → length (lines_text (line_if (type_line_of text) t)) ≡ type_size t
  type_long none h = ap length no_line
  type_long (some event) h = one_long (type_line_of text event)
  type_long (some vod) h = one_long (type_line_of text vod)
  type_long (some (other s)) h = omega (arith, one_long (type_line_of text (other s)), length-append (shown text s) (bytes "\n"), shown_long s h)

  map_long : (m : Option Map) → MapBelow (length text) m → length (lines_text (line_if (map_line_of text) m)) ≡ map_size m
  map_long none h = ap length no_line
  map_long (some (ext_map u r l)) h = omega (arith, one_long (map_line (shown text u) r), length-append (shown text u) (bytes "\"" ++ (map_range_bytes r ++ bytes "\n")), shown_long u h)

  tag_long : (t : ExtTag) → TagBelow (length text) t → length (line_bytes (tag_line_of text t)) ≡ tag_size t
  tag_long (ext name rest) h =
      let behind = rest_bytes (shown_part text rest) in
      omega (arith, length-append (shown text name) (behind ++ bytes "\n"), length-append behind (bytes "\n"), shown_long name h.0, rest_long rest h.1)

  extinf_long : (l : ℕ) (p : Option Span) → PartBelow (length text) p → length (line_bytes (extinf_line l (title_text text p))) ≡ length (line_bytes (extinf_line l [])) + part_size 0 p
  extinf_long l p h =
      let t = title_text text p in
      omega (arith, length-append (length_text l) (bytes "," ++ (t ++ bytes "\n")), length-append t (bytes "\n"), length-append (length_text l) (bytes ",\n"), title_long p h)

  uri_long : (s : Span) → SpanBelow (length text) s → length (line_bytes (uri_line (shown text s))) ≡ length (line_bytes (uri_line [])) + span_size s
  uri_long s h = omega (arith, length-append (shown text s) (bytes "\n"), shown_long s h)

  -- ---- head, clips and the whole
  pub head_long : (hd : Head) → TypeBelow (length text) hd.type → length (lines_text (head_lines text hd)) ≡ head_size hd
  unfolding head_size
  head_long hd h =
      let where-frames = ap length (line_where_lem i_frames_only_line hd.i_frames) in
      let where-independent = ap length (line_where_lem independent_segments_line hd.independent) in
      omega (
        arith,
        simp length-append at (ap length (head_text text hd)),
        simp length-append at (ap length (rest_text text hd)),
        where-independent,
        length-append (number_text hd.target) (bytes "\n"),
        ap length (line_unless_zero_lem media_sequence_line hd.sequence),
        ap length (line_unless_zero_lem discontinuity_sequence_line hd.discontinuities),
        type_long hd.type h,
        where-frames,
      )

module _ (text tags : List ℕ) where
  tags_long : (k n : ℕ) → TagsBelow (length text) tags (k + n) → length (tags_text text tags k n) ≡ tags_size (listed (tag_at tags) k n)
  unfolding listed tags_size
  tags_long k zero h = ap length no_line
  tags_long k (suc n) h =
      let t = tag_at tags k in
      let ts = map (tag_line_of text) (listed (tag_at tags) (suc k) n) in
      omega (
        arith,
        ap length (more_lines (tag_line_of text t) ts),
        length-append (line_bytes (tag_line_of text t)) (lines_text ts),
        tag_long text t (h k (omega arith)),
        tags_long (suc k) n (λ j l. h j (omega arith)),
      )

  module _ (m : ℕ) (below : TagsBelow (length text) tags m) where
    clip_long : (c : Clip) → ClipBelow (length text) c → run_end_lem c ≤ m → length (clip_text text tags m c) ≡ full_size tags c
    unfolding clip_size
    clip_long c h e =
        let s = c.segment in
        let t = title_text text s.title in
        omega (
          arith,
          simp length-append at (ap length (clip_text_lem text tags m c)),
          ap (λ ts. length (lines_text (map (tag_line_of text) ts))) (listed_run (tag_at tags) c.first_tag c.tag_count m e),
          map_long text s.map h.1.1,
          ap length (line_where_lem discontinuity_line s.discontinuity),
          tags_long c.first_tag c.tag_count (λ j b. below j (omega arith)),
          length-append (length_text s.length) (bytes "," ++ (t ++ bytes "\n")),
          length-append t (bytes "\n"),
          extinf_long text s.length s.title h.1.0,
          length-append (shown text c.uri) (bytes "\n"),
          uri_long text c.uri h.0,
        )

    clips_long : (clips : List ℕ) (k n : ℕ) → ClipsBelow (length text) clips (k + n) → RunsWithin clips (k + n) m → length (clips_text text tags m clips k n) ≡ clips_size tags (listed (clip_at clips) k n)
    unfolding listed clips_lines clips_size
    clips_long clips k zero h e = ap length no_line
    clips_long clips k (suc n) h e =
        let c = clip_lines text (tags_at tags m) (clip_at clips k) in
        let cs = clips_lines text (tags_at tags m) (listed (clip_at clips) (suc k) n) in
        omega (
          arith,
          ap length (lines_append c cs),
          length-append (lines_text c) (lines_text cs),
          clip_long (clip_at clips k) (h k (omega arith)) (run_end clips k (e k (omega arith))),
          clips_long clips (suc k) n (λ j l. h j (omega arith)) (λ j l. e j (omega arith)),
        )

pub whole_long : (text : List ℕ) (h : Head) (clips : List ℕ) (n : ℕ) (tags : List ℕ) (m : ℕ) → keeps_rule text h clips n tags m ≡ true
    → length (written_text text h clips n tags m) ≡ whole_size h clips n tags
whole_long text h clips n tags m r =
    let below = tags_below text (length text) (omega arith) h clips n tags m r in
    let k : 0 + n ≡ n = omega arith in
    let clips_in : ClipsBelow (length text) clips (0 + n) = rw k (clips_below text (length text) (omega arith) h clips n tags m r) in
    let runs_in : RunsWithin clips (0 + n) m = rw k (runs_within text (length text) (omega arith) h clips n tags m r) in
    omega (
      arith,
      simp length-append at (ap length (written_text_lem text h clips n tags m)),
      head_long text h (type_below text (length text) (omega arith) h clips n tags m r),
      clips_long text tags m below clips 0 n clips_in runs_in,
      ap length (line_where_lem end_list_line h.ended),
    )
