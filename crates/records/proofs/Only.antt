-- No second clip fits `clip_at`, and no second tag `tag_at`: what each says has a way back to it. Assumes nothing.
use Prim.Native.Nat.{ℕ}
use mathlib.Core.Path.{◌≡◌, ap}
use mathlib.Core.List.{List}
use Rattle.leaves.specs.Answers.{ext_tag_of}
use Rattle.leaves.specs.declared.basic_tags.ExtTag as extᵈ
use Rattle.text.proofs.Only.{Only, no_second, perhaps_only, span_only, part_only}
use Rattle.leaves.specs.Answers.{byte_range_of}
use Rattle.leaves.proofs.Only.{byte_range_back, byte_range_back_lem, ext_tag_only}
use Rattle.attributes.specs.Answers.{opt_range_of, map_of}
use Rattle.attributes.proofs.Only.{map_back, map_back_lem}
use Rattle.assembly.specs.declared.Clip as clipᵈ
use Rattle.assembly.specs.Assembly.{Segment, Clip}
use Rattle.assembly.specs.Answers.{segment_map_of, segment_seen, clip_seen}
use Rattle.records.specs.Records.{clip_at, tag_at}

range_only : Only opt_range_of
range_only = perhaps_only byte_range_of byte_range_back byte_range_back_lem

segment_map_only : Only segment_map_of
segment_map_only = perhaps_only map_of map_back_lem map_back

pub segment_only : Only segment_seen
segment_only a b e =
    let length : a.length ≡ b.length = ap (λ (s : Segment). s.length) e in
    let title : a.title ≡ b.title = part_only a.title b.title (ap (λ (s : Segment). s.title) e) in
    let range : a.byte_range ≡ b.byte_range = range_only a.byte_range b.byte_range (ap (λ (s : Segment). s.range) e) in
    let discontinuity : a.discontinuity ≡ b.discontinuity = ap (λ (s : Segment). s.discontinuity) e in
    let map : a.map ≡ b.map = segment_map_only a.map b.map (ap (λ (s : Segment). s.map) e) in
    λ i. record { length = length i; title = title i; byte_range = range i; discontinuity = discontinuity i; map = map i }

pub clip_only : Only clip_seen
clip_only a b e =
    let uri : a.uri ≡ b.uri = span_only a.uri b.uri (ap (λ (c : Clip). c.uri) e) in
    let segment : a.segment ≡ b.segment = segment_only a.segment b.segment (ap (λ (c : Clip). c.segment) e) in
    let first : a.first ≡ b.first = ap (λ (c : Clip). c.first_tag) e in
    let count : a.count ≡ b.count = ap (λ (c : Clip). c.tag_count) e in
    λ i. record { uri = uri i; segment = segment i; first = first i; count = count i }

-- ---- two results at the same table and index
module _ (t : List ℕ) (k : ℕ) where
  pub clip_once : (a b : clipᵈ.Clip) → clip_seen a ≡ clip_at t k → clip_seen b ≡ clip_at t k → a ≡ b
  clip_once = no_second clip_seen clip_only (clip_at t k)

  pub tag_once : (a b : extᵈ.ExtTag) → ext_tag_of a ≡ tag_at t k → ext_tag_of b ≡ tag_at t k → a ≡ b
  tag_once = no_second ext_tag_of ext_tag_only (tag_at t k)
