-- Record after record: each has the layout's words, so that so many records have so many times as many. By cases, and by induction on the records.
-- Assumes nothing.
use mathlib.Core.Path.{◌≡◌, refl}
use mathlib.Core.List.{List, [], ◌∷◌, ◌++◌, append-nil, append_assoc}
use mathlib.Core.Option.{Option, none, some}
use Prim.Native.Nat.{◌*◌}
use native.Mathlib.Omega.{arith}
use lib.ListN.{length, length-append}
use Rattle.text.specs.Nom.{Span, span}
use Rattle.text.specs.Util.{ByteRange, range}
use Rattle.text.specs.BasicTags.{ExtTag, ext}
use Rattle.attributes.specs.ExtMap.{Map, ext_map}
use Rattle.tables.specs.Layout.{clip_words, tag_words}
use Rattle.assembly.specs.Assembly.{Clip}
use Rattle.assembly.specs.Words.{span_words, part_words, range_words, map_words, clip_words_of, tag_words_of, clips_words, tags_words}

span_words_length : (s : Span) → length (span_words s) ≡ 2
span_words_length (span a b) = refl

part_words_length : (s : Option Span) → length (part_words s) ≡ 2
part_words_length none = refl
part_words_length (some (span a b)) = refl

range_words_length : (r : Option ByteRange) → length (range_words r) ≡ 2
range_words_length none = refl
range_words_length (some (range n none)) = refl
range_words_length (some (range n (some o))) = refl

map_words_length : (m : Option Map) → length (map_words m) ≡ 6
map_words_length none = refl
map_words_length (some (ext_map (span a b) r (span x y))) = simp length-append (omega (arith, range_words_length r))

pub clip_words_length : (c : Clip) → length (clip_words_of c) ≡ clip_words
unfolding clip_words_of
clip_words_length c =
    let s = c.segment in
    simp length-append (omega (arith, span_words_length c.uri, part_words_length s.title, range_words_length s.range, map_words_length s.map))

pub tag_words_length : (t : ExtTag) → length (tag_words_of t) ≡ tag_words
unfolding tag_words_of
tag_words_length (ext (span a b) rest) = omega (arith, part_words_length rest)

pub clips_words_length : (cs : List Clip) → length (clips_words cs) ≡ length cs * clip_words
unfolding clips_words
clips_words_length [] = refl
clips_words_length (c ∷ cs) = rw length-append (omega (arith, clip_words_length c, clips_words_length cs))

pub tags_words_length : (ts : List ExtTag) → length (tags_words ts) ≡ length ts * tag_words
unfolding tags_words
tags_words_length [] = refl
tags_words_length (t ∷ ts) = rw length-append (omega (arith, tag_words_length t, tags_words_length ts))

-- one record alone
pub clips_words_one : (c : Clip) → clips_words (c ∷ []) ≡ clip_words_of c
unfolding clips_words
clips_words_one c = append-nil (clip_words_of c)

pub tags_words_one : (t : ExtTag) → tags_words (t ∷ []) ≡ tag_words_of t
unfolding tags_words
tags_words_one t = append-nil (tag_words_of t)

-- some records, then others
pub clips_words_append : (xs ys : List Clip) → clips_words (xs ++ ys) ≡ clips_words xs ++ clips_words ys
unfolding clips_words
clips_words_append [] ys = refl
clips_words_append (c ∷ xs) ys = rw (append_assoc, clips_words_append xs ys)

pub tags_words_append : (xs ys : List ExtTag) → tags_words (xs ++ ys) ≡ tags_words xs ++ tags_words ys
unfolding tags_words
tags_words_append [] ys = refl
tags_words_append (t ∷ xs) ys = rw (append_assoc, tags_words_append xs ys)
