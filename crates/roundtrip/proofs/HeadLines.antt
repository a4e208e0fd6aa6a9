-- The lines of a playlist's head, where they are ahead: a step takes each, and says what it says. Assumes nothing.
use Prim.Native.Nat.{ℕ, ◌+◌, ◌^◌, ◌<◌}
use mathlib.Core.Path.{◌≡◌, refl, ◌∙◌, ap}
use mathlib.Core.Bool.{Bool, true, false, cond}
use mathlib.Core.List.{List, [], ◌∷◌, ◌++◌, append_assoc}
use native.Mathlib.Omega.{arith}
use lib.ListN.{length, drop}
use Rattle.text.specs.Nom.{ok, span, span_or, bytes, is_none_of, tagged, begins, is_multispace}
use Rattle.text.specs.Util.{number, number_or_zero}
use Rattle.text.specs.BasicTags.{ext_tag, event, vod, other, playlist_type}
use Rattle.text.proofs.Ahead.{Every, Stops, typed, on, in_ahead, comment_ahead, type_ahead, shows}
use Rattle.text.proofs.Spans.{spells_own}
use Rattle.digits.specs.Digits.{number_text}
use Rattle.tags.specs.Tags.{version, target_duration, media_sequence, discontinuity_sequence, i_frames_only, independent_segments, end_list, discontinuity, HeadTag, of_head, of_clip, comment, playlist_tag, segment_tag, other_tag, media_segment_tag, media_playlist_tag, took, step, literal, discontinuity_row, discontinuity_sequence_row, end_list_row, i_frames_only_row, independent_segments_row, media_sequence_row, playlist_type_row, target_duration_row, version_row}
use Rattle.tags.specs.Tags as tags
use Rattle.text.specs.Spans.{same_bytes}
use Rattle.records.specs.Same.{event_shown, vod_shown, other_shown, shown_type}
use Rattle.playlist.specs.Lines.{header_line, independent_segments_line, i_frames_only_line, discontinuity_line, end_list_line, version_line, target_duration_line, media_sequence_line, discontinuity_sequence_line, playlist_type_line, line_bytes}
use Rattle.roundtrip.specs.Premises.{all}
use Rattle.roundtrip.proofs.Said.{says_type, type_says, Some}
use Rattle.roundtrip.proofs.Steps.{TakesLine, every_all, step_leaves, step_takes, part_leaves, part_takes, at_version, at_target, at_sequence, at_discontinuity_sequence, at_type, at_i_frames, at_independent, at_end, at_discontinuity}
use Rattle.roundtrip.proofs.Numbers.{no_digit_lf, number_back, number_or_zero_back}

module _ (text : List ℕ) (at : ℕ) (xs : List ℕ) (s : Stops is_multispace xs) where
  -- ---- marks
  pub takes_independent : drop at text ≡ line_bytes independent_segments_line ++ xs → TakesLine text at independent_segments_line
  takes_independent d = (took at (of_head independent_segments), step_leaves text at _ (literal independent_segments_row) xs (at_independent text at _ d) s d, refl)

  pub takes_i_frames : drop at text ≡ line_bytes i_frames_only_line ++ xs → TakesLine text at i_frames_only_line
  takes_i_frames d = (took at (of_head i_frames_only), step_leaves text at _ (literal i_frames_only_row) xs (at_i_frames text at _ d) s d, refl)

  pub takes_discontinuity : drop at text ≡ line_bytes discontinuity_line ++ xs → TakesLine text at discontinuity_line
  takes_discontinuity d = (took at (of_clip discontinuity), step_leaves text at _ (literal discontinuity_row) xs (at_discontinuity text at _ d) s d, refl)

  pub takes_end : drop at text ≡ line_bytes end_list_line ++ xs → TakesLine text at end_list_line
  takes_end d = (took at (of_head end_list), step_leaves text at _ (literal end_list_row) xs (at_end text at _ d) s d, refl)

  -- the header reads as a comment
  pub takes_header : drop at text ≡ line_bytes header_line ++ xs → TakesLine text at header_line
  unfolding media_playlist_tag playlist_tag media_segment_tag segment_tag other_tag ext_tag tagged begins all
  takes_header d =
      let c = comment_ahead text at (bytes "EXTM3U") xs (every_all _ (bytes "EXTM3U") refl) d in
      let z : at + 1 + 6 + 1 ≡ at + 8 = omega arith in
      (took at (comment (span_or (at + 1) (at + 1 + 6))), step_takes text at _ (bytes "#EXTM3U\n") xs (rw (in_ahead text at 35 _ d, d, c, z)) s d, refl)

  -- ---- numbers
  module _ (n : ℕ) (h : n < 2 ^ 64) where
    pub takes_version : drop at text ≡ line_bytes (version_line n) ++ xs → TakesLine text at (version_line n)
    takes_version d =
        let f = literal version_row in
        (took at (of_head (version n)), part_leaves text at f (number_text n) xs number_or_zero n _ s (at_version text at _ n) d (number_or_zero_back text (at + length f) n h _ no_digit_lf), refl)

    -- the other three
    number_line : (fixed : List ℕ) (t : HeadTag) → ((m : ℕ) → drop at text ≡ fixed ++ (number_text n ++ (bytes "\n" ++ xs)) → number text (at + length fixed) ≡ ok n m → media_playlist_tag text at ≡ ok (of_head t) m)
        → drop at text ≡ (fixed ++ (number_text n ++ bytes "\n")) ++ xs → step text at ≡ ok (took at (of_head t)) (at + length (fixed ++ (number_text n ++ bytes "\n")))
    number_line fixed t known d = part_leaves text at fixed (number_text n) xs number n (of_head t) s known d (number_back text (at + length fixed) n h _ no_digit_lf)

    pub takes_target : drop at text ≡ line_bytes (target_duration_line n) ++ xs → TakesLine text at (target_duration_line n)
    takes_target d = (took at (of_head (target_duration n)), number_line (literal target_duration_row) _ (at_target text at _ n) d, refl)

    pub takes_sequence : drop at text ≡ line_bytes (media_sequence_line n) ++ xs → TakesLine text at (media_sequence_line n)
    takes_sequence d = (took at (of_head (media_sequence n)), number_line (literal media_sequence_row) _ (at_sequence text at _ n) d, refl)

    pub takes_discontinuity_sequence : drop at text ≡ line_bytes (discontinuity_sequence_line n) ++ xs → TakesLine text at (discontinuity_sequence_line n)
    takes_discontinuity_sequence d = (took at (of_head (discontinuity_sequence n)), number_line (literal discontinuity_sequence_row) _ (at_discontinuity_sequence text at _ n) d, refl)

-- ---- a type
module _ (text : List ℕ) (at : ℕ) (xs : List ℕ) where
  shown_type_lem : (b : List ℕ) → drop at text ≡ b ++ xs → shown_type text (typed b (span at (at + length b))) ≡ type_says b
  unfolding type_says
  shown_type_lem b d = rw (spells_own b (bytes "EVENT"), spells_own b (bytes "VOD")) (go (same_bytes b (bytes "EVENT")) (same_bytes b (bytes "VOD")))
    where
      go : (e v : Bool) → shown_type text (cond e event (cond v vod (other (span at (at + length b))))) ≡ cond e event_shown (cond v vod_shown (other_shown b))
      go true v = refl
      go false true = refl
      go false false = ap other_shown (shows text at b xs d)

module _ (text : List ℕ) (at : ℕ) (xs : List ℕ) (s : Stops is_multispace xs) where
  pub takes_type : (t : List ℕ) → Some t → Every (is_none_of (bytes "\r\n")) t → drop at text ≡ line_bytes (playlist_type_line t) ++ xs → TakesLine text at (playlist_type_line t)
  takes_type [] h e d = elim h [ ]
  takes_type (x ∷ b) h e d =
      let f = literal playlist_type_row in
      let v = typed (x ∷ b) (span (at + 21) (at + 21 + length (x ∷ b))) in
      let w = part_takes text at f (x ∷ b) xs playlist_type v _ s (at_type text at _ v) d (type_ahead text (at + 21) x b xs e) in
      let h1 : drop (at + 21) text ≡ (x ∷ b) ++ (bytes "\n" ++ xs) = on text at f _ (d ∙ simp append_assoc) in
      (took at (of_head (tags.typed v)), w, ap says_type (shown_type_lem text (at + 21) (bytes "\n" ++ xs) (x ∷ b) h1))
