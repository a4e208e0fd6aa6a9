-- What clips take at most, by their spans and flags: no number is longer than its limit, and no line than with the longest numbers. And what they then leave of
-- a room, clip after clip. Assumes nothing.
use mathlib.Core.Path.{◌≡◌, ap}
use mathlib.Core.Bool.{Bool, true, false, cond, not, ◌&&◌}
use mathlib.Core.List.{List, [], ◌∷◌, ◌++◌}
use mathlib.Core.Option.{Option, none, some}
use Prim.Native.Nat.{ℕ, zero, suc, ◌+◌, ◌-◌, ◌/◌, ◌%◌, ◌≤◌, ◌<◌}
use native.Mathlib.Omega.{arith}
use lib.Dec.{ltb, eqb}
use lib.ListN.{length, length-append}
use Rattle.text.specs.Nom.{Span, span, bytes}
use Rattle.text.specs.Util.{ByteRange, range}
use Rattle.attributes.specs.ExtMap.{ext_map}
use Rattle.digits.specs.Digits.{digits_by, number_text, length_text}
use Rattle.digits.proofs.Length.{length_size}
use Rattle.tables.specs.Layout as layout
use Rattle.tables.specs.Table.{listed, clip_word, has_flag}
use Rattle.tables.proofs.Listed.{listed_left, listed_over}
use Rattle.records.specs.Records.{optional, part_at, range_at, map_at, clip_at, tag_at}
use Rattle.playlist.specs.Lines.{extinf_line, discontinuity_line, byte_range_line, range_bytes, map_range_bytes, line_bytes, line_if, lines_text}
use Rattle.measure.specs.Inside.Below.{WordsBelow}
use Rattle.measure.specs.Inside.Sizes.{span_size, part_size, map_size, clip_size, tags_size, full_size, clips_size}
use Rattle.measure.proofs.Sizes.{where_long, range_long, map_range_long, clips_none, clips_more}

-- ---- numbers and ranges
digits_most : (f n : ℕ) → length (digits_by f n) ≤ suc f
unfolding digits_by
digits_most zero n = omega arith
digits_most (suc f) n = go (ltb n 10) (digits_most f (n / 10))
  where
    go : (b : Bool) → length (digits_by f (n / 10)) ≤ suc f → length (cond b [] (digits_by f (n / 10)) ++ (48 + n % 10) ∷ []) ≤ suc (suc f)
    go true h = omega arith
    go false h = simp length-append (omega (arith, h))

number_most : (n : ℕ) → length (number_text n) ≤ 21
unfolding number_text
number_most n = digits_most 20 n

range_value_most : (r : ByteRange) → length (range_bytes r) ≤ 43
range_value_most (range n none) = omega (arith, number_most n)
range_value_most (range n (some o)) = omega (arith, number_most n, number_most o, length-append (number_text n) (bytes "@" ++ number_text o))

range_most : (b : Bool) (r : ByteRange) → length (lines_text (line_if byte_range_line (optional b r))) ≤ cond b 61 0
range_most true r = omega (arith, range_long (some r), range_value_most r)
range_most false r = omega (arith, range_long none)

map_range_most : (r : Option ByteRange) → length (map_range_bytes r) ≤ 56
map_range_most none = omega arith
map_range_most (some r) = omega (arith, map_range_long (some r), range_value_most r)

map_most : (b : Bool) (u l : Span) (r : Option ByteRange) → map_size (optional b (ext_map u r l)) ≤ cond b 74 0 + span_size u
map_most true u l r = omega (arith, map_range_most r, length-append (map_range_bytes r) (bytes "\n"))
map_most false u l r = omega arith

-- ---- the other parts of a clip
part_most : (b : Bool) (s : Span) → part_size 0 (optional b s) ≤ span_size s
part_most true s = omega arith
part_most false s = omega arith

extinf_most : (ns : ℕ) → ns < layout.length_limit → length (line_bytes (extinf_line ns [])) ≤ 29
extinf_most ns h = omega (arith, length_size ns h, length-append (length_text ns) (bytes ",\n"))

module _ (clips : List ℕ) (k : ℕ) where
  abbrev flags : ℕ
  flags = clip_word clips k layout.flags

  pub clip_most : WordsBelow layout.text_limit clips k → clip_size (clip_at clips k)
      ≤ 30 + (clip_word clips k layout.uri_end - clip_word clips k layout.uri_start) + (clip_word clips k layout.title_end - clip_word clips k layout.title_start)
      + (clip_word clips k layout.map_uri_end - clip_word clips k layout.map_uri_start)
      + cond (has_flag flags layout.has_range) 61 0 + cond (has_flag flags layout.has_discontinuity) 21 0 + cond (has_flag flags layout.has_map) 74 0
  unfolding clip_size clip_at map_at range_at part_at
  clip_most h =
      let title = span (clip_word clips k layout.title_start) (clip_word clips k layout.title_end) in
      let uri = span (clip_word clips k layout.map_uri_start) (clip_word clips k layout.map_uri_end) in
      let list = span (clip_word clips k layout.map_list_start) (clip_word clips k layout.map_list_end) in
      omega (
        arith,
        map_most (has_flag flags layout.has_map) uri list
            (optional (has_flag flags layout.has_map_range) (range (clip_word clips k layout.map_range_length) (optional (has_flag flags layout.has_map_offset) (clip_word clips k layout.map_range_offset)))),
        range_most (has_flag flags layout.has_range) (range (clip_word clips k layout.range_length) (optional (has_flag flags layout.has_range_offset) (clip_word clips k layout.range_offset))),
        where_long discontinuity_line (has_flag flags layout.has_discontinuity),
        extinf_most (clip_word clips k layout.length_ns) h.length_below,
        part_most (not (eqb (clip_word clips k layout.title_start) 0 && eqb (clip_word clips k layout.title_end) 0)) title,
      )

  -- the same with flags and marks as the code has them
  pub clip_most_by : (f : ℕ) {a b c : Bool} → WordsBelow layout.text_limit clips k → f ≡ flags → a ≡ has_flag f layout.has_range → b ≡ has_flag f layout.has_discontinuity → c ≡ has_flag f layout.has_map
      → clip_size (clip_at clips k)
      ≤ 30 + (clip_word clips k layout.uri_end - clip_word clips k layout.uri_start) + (clip_word clips k layout.title_end - clip_word clips k layout.title_start)
      + (clip_word clips k layout.map_uri_end - clip_word clips k layout.map_uri_start)
      + cond a 61 0 + cond b 21 0 + cond c 74 0
  clip_most_by f h e ea eb ec = rw (ea, eb, ec, e) (clip_most h)

  -- and with the run of its unknown tags
  pub full_by : (tags : List ℕ) {first count : ℕ} → first ≡ clip_word clips k layout.first_tag → count ≡ clip_word clips k layout.tag_count
      → full_size tags (clip_at clips k) ≡ clip_size (clip_at clips k) + tags_size (listed (tag_at tags) first count)
  unfolding clip_at
  full_by tags e f = rw (e, f)

-- ---- clip after clip: what all take and what is left is no more than the room and what those from k on take
pub record Leaving (clips tags : List ℕ) (n room left k : ℕ) : Type 0 where
  pub within : clips_size tags (listed (clip_at clips) 0 n) + left ≤ room + clips_size tags (listed (clip_at clips) k (n - k))
  pub turn : k ≤ n

module _ {clips tags : List ℕ} {n room left k : ℕ} (h : Leaving clips tags n room left k) where
  pub leaving_more : {more : ℕ} → k < n → full_size tags (clip_at clips k) + more ≤ left → Leaving clips tags n room more (k + 1)
  leaving_more l e =
      record {
        within = omega (arith, h.within, e, clips_more tags (clip_at clips k) (listed (clip_at clips) (k + 1) (n - (k + 1))), ap (clips_size tags) (listed_left (clip_at clips) k n l));
        turn = omega arith;
      }

  pub leaving_end : n ≤ k → clips_size tags (listed (clip_at clips) 0 n) + left ≤ room
  leaving_end l = omega (arith, h.within, ap (clips_size tags) (listed_over (clip_at clips) k n l), clips_none tags)
