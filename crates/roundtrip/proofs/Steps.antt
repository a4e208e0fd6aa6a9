-- A step where a line's fixed text is ahead: the alternatives before it fail, and the blanks behind the tag are dropped. Assumes nothing.
use Prim.Native.Nat.{ℕ, ◌+◌}
use mathlib.Core.Path.{◌≡◌, refl, ◌∙◌}
use mathlib.Core.Bool.{Bool, true}
use mathlib.Core.List.{List, [], ◌∷◌, ◌++◌, append_assoc}
use native.Mathlib.Omega.{arith}
use native.Mathlib.Nat.{add-zero}
use lib.ListN.{length, drop, length-append}
use Rattle.text.specs.Nom.{ok, Parser, bytes, begins, tagged, is_multispace}
use Rattle.text.specs.Util.{number, number_or_zero, ByteRange, byte_range_val}
use Rattle.text.specs.BasicTags.{PlaylistType, playlist_type}
use Rattle.text.proofs.Laws.{and_left, and_right}
use Rattle.text.proofs.Ahead.{Every, Stops, on, in_ahead, run_ahead}
use Rattle.attributes.specs.ExtMap.{Map, extmap}
use Rattle.lengths.specs.Duration.{Extinf, duration_title_tag}
use Rattle.tags.specs.Tags.{version, target_duration, media_sequence, discontinuity_sequence, typed, i_frames_only, independent_segments, end_list, timed, ranged, discontinuity, mapped, Tag, of_head, of_clip, literal, byte_range_row, discontinuity_row, discontinuity_sequence_row, end_list_row, extinf_row, i_frames_only_row, independent_segments_row, map_row, media_sequence_row, playlist_type_row, target_duration_row, version_row, playlist_tag, segment_tag, media_segment_tag, media_playlist_tag, Taken, took, step}
use Rattle.playlist.specs.Lines.{Line, line_bytes}
use Rattle.roundtrip.specs.Premises.{all}
use Rattle.roundtrip.proofs.Said.{taken_says, line_says}

-- a step takes the line, no more and no less, and says what the line says
abbrev pub TakesLine : List ℕ → ℕ → Line → Type 0
TakesLine text at l = (a : Taken) × (step text at ≡ ok a (at + length (line_bytes l))) × (taken_says text a ≡ line_says l)

-- bytes that are written out pass a test by computation
pub every_all : (p : ℕ → Bool) (b : List ℕ) → all p b ≡ true → Every p b
unfolding all Every
every_all p [] e = tt
every_all p (x ∷ b) e = (and_left (p x) (all p b) e, every_all p b (and_right (p x) (all p b) e))

-- ---- what a step drops behind a tag
module _ (text : List ℕ) (at : ℕ) (t : Tag) (b xs : List ℕ) (e : media_playlist_tag text at ≡ ok t (at + length b)) (s : Stops is_multispace xs) where
  -- the LF of a tag that ends before it
  pub step_leaves : drop at text ≡ (b ++ bytes "\n") ++ xs → step text at ≡ ok (took at t) (at + length (b ++ bytes "\n"))
  unfolding step Every
  step_leaves h =
      let d = on text at b _ (h ∙ append_assoc b (bytes "\n") xs) in
      let z : at + length b + 1 ≡ at + length (b ++ bytes "\n") = omega (arith, length-append b (bytes "\n")) in
      rw (e, run_ahead text (at + length b) is_multispace (bytes "\n") xs (refl, tt) s d, z)

  -- nothing behind a tag that takes its LF
  pub step_takes : drop at text ≡ b ++ xs → step text at ≡ ok (took at t) (at + length b)
  unfolding step Every
  step_takes h = rw (e, run_ahead text (at + length b) is_multispace [] xs tt s (on text at b xs h), add-zero (at + length b))

-- ---- the alternatives, by their fixed texts
module _ (text : List ℕ) (at : ℕ) (xs : List ℕ) where
  pub at_version : (v n : ℕ) → drop at text ≡ literal version_row ++ xs → number_or_zero text (at + length (literal version_row)) ≡ ok v n → media_playlist_tag text at ≡ ok (of_head (version v)) n
  unfolding media_playlist_tag playlist_tag tagged begins
  at_version v n h e = rw (in_ahead text at 35 _ h, h, e)

  pub at_target : (v n : ℕ) → drop at text ≡ literal target_duration_row ++ xs → number text (at + length (literal target_duration_row)) ≡ ok v n → media_playlist_tag text at ≡ ok (of_head (target_duration v)) n
  unfolding media_playlist_tag playlist_tag tagged begins
  at_target v n h e = rw (in_ahead text at 35 _ h, h, e)

  pub at_sequence : (v n : ℕ) → drop at text ≡ literal media_sequence_row ++ xs → number text (at + length (literal media_sequence_row)) ≡ ok v n → media_playlist_tag text at ≡ ok (of_head (media_sequence v)) n
  unfolding media_playlist_tag playlist_tag tagged begins
  at_sequence v n h e = rw (in_ahead text at 35 _ h, h, e)

  pub at_discontinuity_sequence : (v n : ℕ) → drop at text ≡ literal discontinuity_sequence_row ++ xs → number text (at + length (literal discontinuity_sequence_row)) ≡ ok v n → media_playlist_tag text at ≡ ok (of_head (discontinuity_sequence v)) n
  unfolding media_playlist_tag playlist_tag tagged begins
  at_discontinuity_sequence v n h e = rw (in_ahead text at 35 _ h, h, e)

  pub at_type : (t : PlaylistType) (n : ℕ) → drop at text ≡ literal playlist_type_row ++ xs → playlist_type text (at + length (literal playlist_type_row)) ≡ ok t n → media_playlist_tag text at ≡ ok (of_head (typed t)) n
  unfolding media_playlist_tag playlist_tag tagged begins
  at_type t n h e = rw (in_ahead text at 35 _ h, h, e)

  pub at_i_frames : drop at text ≡ literal i_frames_only_row ++ xs → media_playlist_tag text at ≡ ok (of_head i_frames_only) (at + length (literal i_frames_only_row))
  unfolding media_playlist_tag playlist_tag tagged begins
  at_i_frames h = rw (in_ahead text at 35 _ h, h)

  pub at_independent : drop at text ≡ literal independent_segments_row ++ xs → media_playlist_tag text at ≡ ok (of_head independent_segments) (at + length (literal independent_segments_row))
  unfolding media_playlist_tag playlist_tag tagged begins
  at_independent h = rw (in_ahead text at 35 _ h, h)

  pub at_end : drop at text ≡ literal end_list_row ++ xs → media_playlist_tag text at ≡ ok (of_head end_list) (at + length (literal end_list_row))
  unfolding media_playlist_tag playlist_tag tagged begins
  at_end h = rw (in_ahead text at 35 _ h, h)

  pub at_length : (x : Extinf) (n : ℕ) → drop at text ≡ literal extinf_row ++ xs → duration_title_tag text (at + length (literal extinf_row)) ≡ ok x n → media_playlist_tag text at ≡ ok (of_clip (timed x)) n
  unfolding media_playlist_tag playlist_tag media_segment_tag segment_tag tagged begins
  at_length x n h e = rw (in_ahead text at 35 _ h, h, e)

  pub at_range : (r : ByteRange) (n : ℕ) → drop at text ≡ literal byte_range_row ++ xs → byte_range_val text (at + length (literal byte_range_row)) ≡ ok r n → media_playlist_tag text at ≡ ok (of_clip (ranged r)) n
  unfolding media_playlist_tag playlist_tag media_segment_tag segment_tag tagged begins
  at_range r n h e = rw (in_ahead text at 35 _ h, h, e)

  -- before its LF: `-SEQUENCE:` would be another tag
  pub at_discontinuity : drop at text ≡ (literal discontinuity_row ++ bytes "\n") ++ xs → media_playlist_tag text at ≡ ok (of_clip discontinuity) (at + length (literal discontinuity_row))
  unfolding media_playlist_tag playlist_tag media_segment_tag segment_tag tagged begins
  at_discontinuity h = rw (in_ahead text at 35 _ h, h)

  pub at_map : (m : Map) (n : ℕ) → drop at text ≡ literal map_row ++ xs → extmap text (at + length (literal map_row)) ≡ ok m n → media_playlist_tag text at ≡ ok (of_clip (mapped m)) n
  unfolding media_playlist_tag playlist_tag media_segment_tag segment_tag tagged begins
  at_map m n h e = rw (in_ahead text at 35 _ h, h, e)

-- ---- a line of a fixed text and a part that a rule reads
module _ {A : Type 0} (text : List ℕ) (at : ℕ) (fixed b xs : List ℕ) (p : Parser A) (v : A) (t : Tag) (s : Stops is_multispace xs)
    (known : (n : ℕ) → drop at text ≡ fixed ++ (b ++ (bytes "\n" ++ xs)) → p text (at + length fixed) ≡ ok v n → media_playlist_tag text at ≡ ok t n)
    (d : drop at text ≡ (fixed ++ (b ++ bytes "\n")) ++ xs) where
  parted : drop at text ≡ fixed ++ (b ++ (bytes "\n" ++ xs))
  parted = d ∙ simp append_assoc

  -- the rule ends before the LF
  pub part_leaves : (drop (at + length fixed) text ≡ b ++ (bytes "\n" ++ xs) → p text (at + length fixed) ≡ ok v (at + length fixed + length b))
      → step text at ≡ ok (took at t) (at + length (fixed ++ (b ++ bytes "\n")))
  part_leaves read =
      let z : at + length fixed + length b ≡ at + length (fixed ++ b) = omega (arith, length-append fixed b) in
      let e : p text (at + length fixed) ≡ ok v (at + length (fixed ++ b)) = rw (← z) (read (on text at fixed _ parted)) in
      rw (← append_assoc fixed b (bytes "\n")) (step_leaves text at t (fixed ++ b) xs (known _ parted e) s (rw (← append_assoc fixed b (bytes "\n")) at d))

  -- the rule takes the LF
  pub part_takes : (drop (at + length fixed) text ≡ b ++ (bytes "\n" ++ xs) → p text (at + length fixed) ≡ ok v (at + length fixed + length b + 1))
      → step text at ≡ ok (took at t) (at + length (fixed ++ (b ++ bytes "\n")))
  part_takes read =
      let z : at + length fixed + length b + 1 ≡ at + length (fixed ++ (b ++ bytes "\n")) = omega (arith, length-append fixed (b ++ bytes "\n"), length-append b (bytes "\n")) in
      let e : p text (at + length fixed) ≡ ok v (at + length (fixed ++ (b ++ bytes "\n"))) = rw (← z) (read (on text at fixed _ parted)) in
      step_takes text at t (fixed ++ (b ++ bytes "\n")) xs (known _ parted e) s d
