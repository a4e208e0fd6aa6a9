-- 01's rule 9, the writer's: "the counts fit; spans, the head's too, have start <= end <= text length; word 2 below 10^18; word 3 agrees with word 2; flags
-- below 64, flag 2 only with 1, 16 only with 8, 32 only with 16; absent words zero; unknown runs adjoin from 0 and use all tags". Assumes nothing.
use Rattle.std.specs.Prelude.{ℕ, zero, suc, ◌+◌, Bool, true, not, ◌&&◌, ◌||◌, List, ltb, eqb}
use Rattle.std.proofs.Math.Option.{Option, none, some}
use Rattle.text.specs.Nom.{span}
use Rattle.text.specs.BasicTags.{PlaylistType, event, vod, other}
use Rattle.text.specs.Spans.{span_fits}
use Rattle.lengths.specs.Binary32.{seconds_bits}
use Rattle.tables.specs.Layout as layout
use Rattle.tables.specs.Table.{every, clips_fit, tags_fit, clip_word, tag_word, has_flag}
use Rattle.assembly.specs.Assembly.{Head}

-- "the head's too": a type that is another text is a span
abbrev pub type_fits : List ℕ → Option PlaylistType → Bool
type_fits text none = true
type_fits text (some event) = true
type_fits text (some vod) = true
type_fits text (some (other (span a b))) = span_fits text a b

abbrev pub head_fits : List ℕ → Head → Bool
head_fits text h = type_fits text h.type

-- a flag only with another
abbrev pub only_with : ℕ → ℕ → ℕ → Bool
only_with flags flag with = not (has_flag flags flag) || has_flag flags with

-- "word 3 agrees with word 2": clip k's bits are those of its length
abbrev pub bits_agree : List ℕ → ℕ → Bool
bits_agree t k = eqb (clip_word t k layout.bits) (seconds_bits (clip_word t k layout.length_ns))

-- "flags below 64, flag 2 only with 1, 16 only with 8, 32 only with 16"
unfoldable pub flags_keep : ℕ → Bool
flags_keep flags =
    ltb flags layout.flag_limit
    && (only_with flags layout.has_range_offset layout.has_range
    && (only_with flags layout.has_map_range layout.has_map
    && only_with flags layout.has_map_offset layout.has_map_range))

-- "absent words zero": a word that belongs to a flag
abbrev pub zero_without : ℕ → ℕ → ℕ → Bool
zero_without flags flag word = has_flag flags flag || eqb word 0

module _ (text t : List ℕ) (k : ℕ) where
  -- the words of clip k that stand for themselves: URI, length, bits, title
  unfoldable pub plain_keep : Bool
  plain_keep =
      span_fits text (clip_word t k layout.uri_start) (clip_word t k layout.uri_end)
      && (ltb (clip_word t k layout.length_ns) layout.length_limit
      && (bits_agree t k
      && span_fits text (clip_word t k layout.title_start) (clip_word t k layout.title_end)))

  -- those of its range
  unfoldable pub range_keeps : Bool
  range_keeps =
      zero_without (clip_word t k layout.flags) layout.has_range (clip_word t k layout.range_length)
      && zero_without (clip_word t k layout.flags) layout.has_range_offset (clip_word t k layout.range_offset)

  -- those of its map
  unfoldable pub map_keeps : Bool
  map_keeps =
      span_fits text (clip_word t k layout.map_uri_start) (clip_word t k layout.map_uri_end)
      && (span_fits text (clip_word t k layout.map_list_start) (clip_word t k layout.map_list_end)
      && (zero_without (clip_word t k layout.flags) layout.has_map (clip_word t k layout.map_uri_start)
      && (zero_without (clip_word t k layout.flags) layout.has_map (clip_word t k layout.map_uri_end)
      && (zero_without (clip_word t k layout.flags) layout.has_map (clip_word t k layout.map_list_start)
      && (zero_without (clip_word t k layout.flags) layout.has_map (clip_word t k layout.map_list_end)
      && (zero_without (clip_word t k layout.flags) layout.has_map_range (clip_word t k layout.map_range_length)
      && zero_without (clip_word t k layout.flags) layout.has_map_offset (clip_word t k layout.map_range_offset)))))))

  unfoldable pub clip_keeps : Bool
  clip_keeps = plain_keep && (flags_keep (clip_word t k layout.flags) && (range_keeps && map_keeps))

-- unknown tag k
unfoldable pub tag_keeps : List ℕ → List ℕ → ℕ → Bool
tag_keeps text t k =
    span_fits text (tag_word t k layout.name_start) (tag_word t k layout.name_end)
    && span_fits text (tag_word t k layout.rest_start) (tag_word t k layout.rest_end)

-- how many unknown tags the first n clips say that they have
unfoldable pub tags_up_to : List ℕ → ℕ → ℕ
tags_up_to t zero = 0
tags_up_to t (suc n) = tags_up_to t n + clip_word t n layout.tag_count

-- "unknown runs adjoin from 0 and use all tags"
unfoldable pub runs_adjoin : List ℕ → ℕ → ℕ → Bool
runs_adjoin t n tags = every (λ k. eqb (clip_word t k layout.first_tag) (tags_up_to t k)) n && eqb (tags_up_to t n) tags

-- the whole rule: a text, a head, n clips, m unknown tags
unfoldable pub keeps_rule : List ℕ → Head → List ℕ → ℕ → List ℕ → ℕ → Bool
keeps_rule text h clips n tags m =
    clips_fit clips n
    && (tags_fit tags m
    && (head_fits text h
    && (every (clip_keeps text clips) n
    && (every (tag_keeps text tags) m
    && runs_adjoin clips n m))))
