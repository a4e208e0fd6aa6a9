-- "Two lists are the same when heads and clips agree, spans by the bytes they show, words 13 and 14 aside." Assumes nothing.
use Rattle.std.specs.Prelude.{ℕ, Bool, true, false, not, ◌&&◌, List, map, eqb, take, drop}
use Rattle.std.proofs.Math.Option.{Option, none, some}
use Rattle.text.specs.Util.{ByteRange, range}
use Rattle.text.specs.BasicTags.{ExtTag, ext, PlaylistType, event, vod, other}
use Rattle.attributes.specs.ExtMap.{Map, ext_map}
use Rattle.assembly.specs.Assembly.{Head, Clip}
use Rattle.text.specs.Spans.{shown, shown_part, same_all, same_bytes}

-- ---- a list with its spans shown
pub data ShownType : Type 0 where
  event_shown vod_shown : ShownType
  other_shown : List ℕ → ShownType

abbrev pub shown_type : List ℕ → PlaylistType → ShownType
shown_type text event = event_shown
shown_type text vod = vod_shown
shown_type text (other s) = other_shown (shown text s)

-- version, target, media sequence, discontinuity sequence, type, end, I-frames only, independent
pub data ShownHead : Type 0 where
  head_shown : Option ℕ → ℕ → ℕ → ℕ → Option ShownType → Bool → Bool → Bool → ShownHead

abbrev pub shown_type_if : List ℕ → Option PlaylistType → Option ShownType
shown_type_if text none = none
shown_type_if text (some t) = some (shown_type text t)

abbrev pub shown_head : List ℕ → Head → ShownHead
shown_head text hd = head_shown hd.version hd.target hd.sequence hd.discontinuities (shown_type_if text hd.type) hd.ended hd.i_frames hd.independent

-- an unknown tag: name, rest if present
pub data ShownTag : Type 0 where
  tag_shown : List ℕ → Option (List ℕ) → ShownTag

abbrev pub shown_tag : List ℕ → ExtTag → ShownTag
shown_tag text (ext name rest) = tag_shown (shown text name) (shown_part text rest)

-- a map: URI, range; its list aside
pub data ShownMap : Type 0 where
  map_shown : List ℕ → Option ByteRange → ShownMap

abbrev pub shown_map : List ℕ → Option Map → Option ShownMap
shown_map text none = none
shown_map text (some (ext_map u r l)) = some (map_shown (shown text u) r)

-- a clip: URI, length in ns, title, range, discontinuity, map, first unknown tag and how many, and these tags
pub data ShownClip : Type 0 where
  clip_shown : List ℕ → ℕ → Option (List ℕ) → Option ByteRange → Bool → Option ShownMap → ℕ → ℕ → List ShownTag → ShownClip

abbrev pub shown_clip : List ℕ → List ExtTag → Clip → ShownClip
shown_clip text tags c =
    let s = c.segment in
    clip_shown (shown text c.uri) s.length (shown_part text s.title) s.range s.discontinuity (shown_map text s.map) c.first_tag c.tag_count
    (map (shown_tag text) (take c.tag_count (drop c.first_tag tags)))

pub data ShownList : Type 0 where
  list_shown : ShownHead → List ShownClip → ShownList

unfoldable pub shown_list : List ℕ → Head → List Clip → List ExtTag → ShownList
shown_list text h clips tags = list_shown (shown_head text h) (map (shown_clip text tags) clips)

-- ---- whether two agree
module _ {A : Type 0} (same : A → A → Bool) where
  unfoldable pub same_option : Option A → Option A → Bool
  same_option none none = true
  same_option none (some b) = false
  same_option (some a) none = false
  same_option (some a) (some b) = same a b

abbrev pub same_mark : Bool → Bool → Bool
same_mark true b = b
same_mark false b = not b

abbrev pub same_type : ShownType → ShownType → Bool
same_type event_shown event_shown = true
same_type event_shown vod_shown = false
same_type event_shown (other_shown b) = false
same_type vod_shown event_shown = false
same_type vod_shown vod_shown = true
same_type vod_shown (other_shown b) = false
same_type (other_shown a) event_shown = false
same_type (other_shown a) vod_shown = false
same_type (other_shown a) (other_shown b) = same_bytes a b

abbrev pub same_head : ShownHead → ShownHead → Bool
same_head (head_shown v d m c p e i n) (head_shown w f o b q g j k) =
    same_option eqb v w && (eqb d f && (eqb m o && (eqb c b && (same_option same_type p q && (same_mark e g && (same_mark i j && same_mark n k))))))

abbrev pub same_range : ByteRange → ByteRange → Bool
same_range (range n o) (range m p) = eqb n m && same_option eqb o p

abbrev pub same_map : ShownMap → ShownMap → Bool
same_map (map_shown u r) (map_shown w s) = same_bytes u w && same_option same_range r s

abbrev pub same_tag : ShownTag → ShownTag → Bool
same_tag (tag_shown a r) (tag_shown b s) = same_bytes a b && same_option same_bytes r s

abbrev pub same_clip : ShownClip → ShownClip → Bool
same_clip (clip_shown u l t r d m f n ts) (clip_shown w k s q e o g j us) =
    same_bytes u w && (eqb l k && (same_option same_bytes t s && (same_option same_range r q && (same_mark d e && (same_option same_map m o && (eqb f g && (eqb n j && same_all same_tag ts us)))))))

-- the same list
unfoldable pub same_list : ShownList → ShownList → Bool
same_list (list_shown h cs) (list_shown k ds) = same_head h k && same_all same_clip cs ds
