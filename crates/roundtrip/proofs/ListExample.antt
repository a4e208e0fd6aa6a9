-- The premises can be met: a list whose text has every kind of line. Assumes nothing.
use Prim.Native.Nat.{ℕ}
use mathlib.Core.Path.{◌≡◌, refl, ◌∙◌, ap}
use mathlib.Core.Bool.{true, false}
use mathlib.Core.List.{List, [], ◌∷◌, map as map_list}
use mathlib.Core.Option.{none, some}
use native.Mathlib.Omega.{arith}
use Rattle.text.specs.Why.{other_text}
use Rattle.text.specs.Nom.{span, bytes, is_digit, tagged, begins, run, run_end, decimal}
use Rattle.text.specs.Util.{parsed, number, range}
use Rattle.text.specs.BasicTags.{ExtTag, ext, other}
use Rattle.attributes.specs.ExtMap.{ext_map}
use Rattle.tags.specs.Tags.{playlist_tag, segment_tag}
use Rattle.assembly.specs.Assembly.{Head, head, segment, Clip, clip}
use Rattle.media.specs.Calls.{steps_of}
use Rattle.playlist.specs.Lines.{Line, independent_segments_line, i_frames_only_line, discontinuity_line, end_list_line, version_line, target_duration_line, media_sequence_line, discontinuity_sequence_line, playlist_type_line, map_line, byte_range_line, unknown_line, extinf_line, uri_line, head_lines, clip_lines, clips_lines, playlist_text}
use Rattle.records.proofs.Back.{All}
use Rattle.roundtrip.specs.Premises.{all}
use Rattle.roundtrip.proofs.Said.{taken_says, line_says, Clean}
use Rattle.roundtrip.proofs.Told.{body_lines}
use Rattle.roundtrip.proofs.Steps.{every_all}
use Rattle.roundtrip.proofs.Fitting.{CleanHead, CleanClip, playlist_says}

abbrev source : List ℕ
source = bytes "m.mp4 a.ts Title X-FOO bar LIVE"

abbrev h : Head
h = head (some 3) 10 7 2 (some (other (span 27 31))) true true true

abbrev clips : List Clip
clips =
    clip (span 6 10) (segment 9500000000 (some (span 11 16)) (some (range 9 (some 7))) true (some (ext_map (span 0 5) (some (range 5 none)) (span 0 0)))) 0 2
    ∷ clip (span 6 10) (segment 4000000000 none none false none) 2 0
    ∷ []

abbrev tags : List ExtTag
tags = ext (span 17 22) (some (span 23 26)) ∷ ext (span 17 22) none ∷ []

abbrev lines : List Line
lines =
    version_line 3
    ∷ independent_segments_line
    ∷ target_duration_line 10
    ∷ media_sequence_line 7
    ∷ discontinuity_sequence_line 2
    ∷ playlist_type_line (bytes "LIVE")
    ∷ i_frames_only_line
    ∷ map_line (bytes "m.mp4") (some (range 5 none))
    ∷ byte_range_line (range 9 (some 7))
    ∷ discontinuity_line
    ∷ unknown_line (bytes "X-FOO") (some (bytes "bar"))
    ∷ unknown_line (bytes "X-FOO") none
    ∷ extinf_line 9500000000 (bytes "Title")
    ∷ uri_line (bytes "a.ts")
    ∷ extinf_line 4000000000 []
    ∷ uri_line (bytes "a.ts")
    ∷ end_list_line
    ∷ []

its_lines : body_lines source h clips tags ≡ lines
unfolding body_lines head_lines clip_lines clips_lines
its_lines = refl

clean_head : CleanHead source h
unfolding all
clean_head = record { version = omega arith; target = omega arith; sequence = omega arith; discontinuities = omega arith; type = (tt, every_all _ (bytes "LIVE") refl) }

foo_clean : (Clean (unknown_line (bytes "X-FOO") (some (bytes "bar")))) × (Clean (unknown_line (bytes "X-FOO") none))
unfolding all playlist_tag segment_tag tagged begins
foo_clean =
    let name = every_all _ (bytes "X-FOO") refl in
    ((tt, (name, ((tt, every_all _ (bytes "bar") refl), λ xs. ((other_text, refl), (other_text, refl))))), (tt, (name, (tt, λ xs. ((other_text, refl), (other_text, refl))))))

uri_clean : Clean (uri_line (bytes "a.ts"))
unfolding all begins
uri_clean = (tt, (refl, (refl, every_all _ (bytes "a.ts") refl)))

clean_clips : All (CleanClip source tags) clips
unfolding All all begins
clean_clips = (
  record {
    map = (tt, (every_all _ (bytes "m.mp4") refl, omega arith));
    range = (omega arith, omega arith);
    tags = (foo_clean.0, (foo_clean.1, tt));
    length = (omega arith, every_all _ (bytes "Title") refl);
    uri = uri_clean;
    no_comma = refl;
  },
  (record { map = tt; range = tt; tags = tt; length = (omega arith, every_all _ [] refl); uri = uri_clean; no_comma = refl }, tt),
)

-- so the text of the list is read as its lines
read_back : (let w = playlist_text source h clips tags in map_list (taken_says w) (steps_of w) ≡ map_list line_says lines)
read_back = playlist_says source h clips tags clean_head clean_clips ∙ ap (map_list line_says) its_lines

-- an unknown tag that is a known one with too large a number
large_clean : Clean (unknown_line (bytes "X-TARGETDURATION") (some (bytes "18446744073709551616")))
unfolding all playlist_tag segment_tag number parsed is_digit decimal run_end run tagged begins
large_clean = (tt, (every_all _ (bytes "X-TARGETDURATION") refl, ((tt, every_all _ (bytes "18446744073709551616") refl), λ xs. ((other_text, refl), (other_text, refl)))))
