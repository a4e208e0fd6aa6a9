-- What rule 9 says of the spans of head, clips and unknown tags: they end within the text, and so below any n that is not less. Rests on rule9/proofs/Kept.
-- Assumes nothing.
use mathlib.Core.Path.{◌≡◌, ap}
use mathlib.Core.Bool.{Bool, true, false, not, ◌&&◌}
use mathlib.Core.List.{List}
use mathlib.Core.Option.{Option, none, some}
use Prim.Native.Nat.{ℕ, ◌*◌, ◌≤◌}
use native.Mathlib.Omega.{arith}
use lib.Dec.{eqb}
use lib.ListN.{length}
use borrow.Author.Tests.{leb-true}
use Rattle.text.specs.Nom.{span}
use Rattle.text.specs.BasicTags.{PlaylistType, event, vod, other}
use Rattle.tables.specs.Layout as layout
use Rattle.tables.specs.Table.{fits, clip_word, has_flag}
use Rattle.attributes.specs.ExtMap.{ext_map}
use Rattle.assembly.specs.Assembly.{Head, Clip}
use Rattle.records.specs.Records.{optional, part_at, range_at, map_at, clip_at, tag_at}
use Rattle.rule9.specs.Rule9.{type_fits, keeps_rule}
use Rattle.rule9.proofs.Kept.{SpanKept, span_kept, rule_kept, clip_kept, tag_kept, run_within}
use Rattle.measure.specs.Inside.Below.{PartBelow, TypeBelow, MapBelow, TagsBelow, ClipsBelow, TableBelow, RunsWithin}

module _ (text : List ℕ) (n : ℕ) (most : length text ≤ n) where
  -- a part and a map that are there only at times
  part_below : (a b : ℕ) → SpanKept text a b → PartBelow n (part_at a b)
  unfolding part_at
  part_below a b h = go (not (eqb a 0 && eqb b 0))
    where
      go : (x : Bool) → PartBelow n (optional x (span a b))
      go true = (h.ordered, omega (arith, h.within))
      go false = tt

  map_below : (t : List ℕ) (k : ℕ) → SpanKept text (clip_word t k layout.map_uri_start) (clip_word t k layout.map_uri_end) → MapBelow n (map_at t k)
  unfolding map_at
  map_below t k h = go (has_flag (clip_word t k layout.flags) layout.has_map)
    where
      go : (x : Bool) → MapBelow n (optional x (ext_map (span (clip_word t k layout.map_uri_start) (clip_word t k layout.map_uri_end))
          (range_at (clip_word t k layout.flags) layout.has_map_range layout.has_map_offset (clip_word t k layout.map_range_length) (clip_word t k layout.map_range_offset))
          (span (clip_word t k layout.map_list_start) (clip_word t k layout.map_list_end))))
      go true = (h.ordered, omega (arith, h.within))
      go false = tt

  module _ (h : Head) (clips : List ℕ) (c : ℕ) (tags : List ℕ) (m : ℕ) (r : keeps_rule text h clips c tags m ≡ true) where
    pub type_below : TypeBelow n h.type
    type_below = go h.type (rule_kept text h clips c tags m r).head_fits_lem
      where
        go : (t : Option PlaylistType) → type_fits text t ≡ true → TypeBelow n t
        go none e = tt
        go (some event) e = tt
        go (some vod) e = tt
        go (some (other (span a b))) e = let k = span_kept text a b e in (k.ordered, omega (arith, k.within))

    pub clips_below : ClipsBelow n clips c
    unfolding clip_at
    clips_below k l =
        let kept = clip_kept text clips k ((rule_kept text h clips c tags m r).clip k l) in
        ((kept.uri.ordered, omega (arith, kept.uri.within)), (part_below _ _ kept.title, map_below clips k kept.map_uri))

    pub tags_below : TagsBelow n tags m
    unfolding tag_at
    tags_below k l =
        let kept = tag_kept text tags k ((rule_kept text h clips c tags m r).tag k l) in
        ((kept.name.ordered, omega (arith, kept.name.within)), part_below _ _ kept.rest)

    pub runs_within : RunsWithin clips c m
    runs_within = run_within text h clips c tags m (rule_kept text h clips c tags m r)

    pub table_below : TableBelow n clips c
    table_below k l =
        let kept = clip_kept text clips k ((rule_kept text h clips c tags m r).clip k l) in
        record {
          uri = (kept.uri.ordered, omega (arith, kept.uri.within));
          title = (kept.title.ordered, omega (arith, kept.title.within));
          map_uri = (kept.map_uri.ordered, omega (arith, kept.map_uri.within));
          length_below = kept.length_below;
        }

    pub table_held : c * layout.clip_words ≤ length clips
    unfolding fits
    table_held = leb-true (c * layout.clip_words) (length clips) (rule_kept text h clips c tags m r).clips_fit_lem

    -- all that measuring asks, and all that its bound asks
    pub rule_below : TypeBelow n h.type × (RunsWithin clips c m × (TagsBelow n tags m × ClipsBelow n clips c))
    rule_below = (type_below, (runs_within, (tags_below, clips_below)))

    pub rule_bound : TypeBelow n h.type × (c * layout.clip_words ≤ length clips × (TableBelow n clips c × (RunsWithin clips c m × TagsBelow n tags m)))
    rule_bound = (type_below, (table_held, (table_below, (runs_within, tags_below))))

-- the run of clip k, by its words
pub clip_run : (clips : List ℕ) (k : ℕ) {c : Clip} → c ≡ clip_at clips k → (c.first_tag ≡ clip_word clips k layout.first_tag) × (c.tag_count ≡ clip_word clips k layout.tag_count)
unfolding clip_at
clip_run clips k e = (ap (λ (c : Clip). c.first_tag) e, ap (λ (c : Clip). c.tag_count) e)
