-- What is sound of a tag that was taken in a text: numbers fit, lengths are in range, each span is a part of the text whose bytes are of the right kind; and an
-- unknown tag is read by no rule of a known one. Assumes nothing.
use Prim.Native.Nat.{ℕ}
use mathlib.Core.Path.{◌≡◌}
use mathlib.Core.List.{List}
use Rattle.text.specs.Why.{Why}
use Rattle.text.specs.Nom.{fail, ok, bytes, is_none_of, is_multispace}
use Rattle.text.specs.BasicTags.{ExtTag, ext_tag}
use Rattle.text.proofs.Ahead.{Stops}
use Rattle.tags.specs.Tags.{HeadTag, version, target_duration, media_sequence, discontinuity_sequence, typed, i_frames_only, independent_segments, end_list, ClipTag, timed, ranged, discontinuity, mapped, Tag, of_head, of_clip, unknown, comment, uri, left_out, playlist_tag, segment_tag}
use Rattle.text.specs.Spans.{shown}
use Rattle.roundtrip.proofs.Said.{NumbersFit}
use Rattle.roundtrip.proofs.Gives.{Shows, Small}
use Rattle.roundtrip.proofs.Values.{SoundType, SoundExt, SoundExtinf, SoundMap}

module _ (text : List ℕ) where
  abbrev pub SoundHead : HeadTag → Type 0
  SoundHead (version n) = Small n
  SoundHead (target_duration n) = Small n
  SoundHead (media_sequence n) = Small n
  SoundHead (discontinuity_sequence n) = Small n
  SoundHead (typed t) = SoundType text t
  SoundHead i_frames_only = Unit {0}
  SoundHead independent_segments = Unit {0}
  SoundHead end_list = Unit {0}

  abbrev pub SoundClip : ClipTag → Type 0
  SoundClip (timed e) = SoundExtinf text e
  SoundClip (ranged r) = NumbersFit r
  SoundClip discontinuity = Unit {0}
  SoundClip (mapped m) = SoundMap text m

  module _ (at : ℕ) where
    -- no known tag's rule reads what is here, and the rule of unknown tags does
    pub record Unread (x : ExtTag) : Type 0 where
      pub no_head : (why : Why) × (playlist_tag text at ≡ fail why)
      pub no_clip : (why : Why) × (segment_tag text at ≡ fail why)
      pub read : (n : ℕ) × (ext_tag text at ≡ ok x n)

    abbrev pub Sound : Tag → Type 0
    Sound (of_head t) = SoundHead t
    Sound (of_clip t) = SoundClip t
    Sound (unknown x) = SoundExt text x × Unread x
    Sound (comment c) = Unit {0}
    Sound (uri s) = Shows (is_none_of (bytes "\r\n")) text s × Stops is_multispace (shown text s)
    Sound (left_out x) = Unit {0}
