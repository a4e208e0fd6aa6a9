-- What the reader guarantees of the tag that a step takes: numbers fit, lengths are in range, each span is a part of the text whose bytes are of the right kind,
-- between two edges; and an unknown tag is read by no rule of a known one. Assumes nothing.
use Prim.Native.Nat.{ℕ, zero, suc, ◌-◌, ◌<◌}
use mathlib.Core.Path.{◌≡◌, refl}
use mathlib.Core.Bool.{Bool, true, ◌&&◌}
use mathlib.Core.List.{List, [], ◌∷◌}
use lib.Dec.{ltb}
use lib.ListN.{length, take, drop, get_or}
use borrow.Author.Tests.{ltb-true}
use Rattle.text.specs.Why.{Why, other_text, missing_byte}
use Rattle.text.specs.Nom.{fail, ok, Parser, Span, bytes, is_none_of, run_end, or_else, tag, alt, is_multispace}
use Rattle.text.specs.BasicTags.{ext_tag}
use Rattle.text.proofs.Ahead.{Stops}
use Rattle.text.proofs.Laws.{and_left, and_right}
use Rattle.text.proofs.Takes.{fail_not_ok}
use Rattle.text.proofs.Blanks.{NotBlank, not_blank_after, first_byte}
use Rattle.tags.specs.Tags.{Tag, unknown, comment, uri, Row, row, mark, literal, reads, first_of, playlist_rows, playlist_tag, segment_rows, clips_from, segment_tag, unknown_tag, comment_line, uri_line, other_tag, media_segment_tag, media_playlist_tag, Taken, took, step}
use Rattle.tags.proofs.Rows.{of_rows}
use Rattle.roundtrip.proofs.Edges.{Edge, one_of_ends}
use Rattle.roundtrip.proofs.Gives.{Gives, gives_done, gives_when, gives_alt, gives_bind, Ends, Cut, gives_tag}
use Rattle.roundtrip.proofs.Values.{SoundExt, gives_ext, gives_comment, gives_line, SoundLine}
pub use Rattle.roundtrip.proofs.Sounds.{SoundHead, SoundClip, Unread, Sound}
use Rattle.roundtrip.proofs.Rows.{Keep, head_kept, clip_kept}

stops_take : (n : ℕ) (s : List ℕ) → Stops is_multispace s → Stops is_multispace (take n s)
stops_take zero s h = tt
stops_take (suc n) [] h = tt
stops_take (suc n) (x ∷ s) h = h

-- ---- the known tags, by their rows
-- a fixed text is not empty, and its last byte is ASCII
abbrev edged : Row → Bool
edged r = ltb 0 (length (literal r)) && ltb (get_or (literal r) (length (literal r) - 1) 0) 128

abbrev GivesSound : Parser Tag → Type 0
GivesSound p = (text : List ℕ) (at : ℕ) → Gives (Cut text (Sound text at)) (p text at)

row_sound : (k : ℕ) (r : Row) → edged r ≡ true → Keep k r → GivesSound (reads r)
row_sound k r e h text at = go r e h
  where
    start : (t : List ℕ) → (ltb 0 (length t) && ltb (get_or t (length t - 1) 0) 128) ≡ true → Gives (Ends text) (tag t text at)
    start t e =
        let b = ltb (get_or t (length t - 1) 0) 128 in
        gives_tag text at t (ltb-true 0 (length t) (and_left (ltb 0 (length t)) b e)) (ltb-true (get_or t (length t - 1) 0) 128 (and_right (ltb 0 (length t)) b e))

    go : (r : Row) → edged r ≡ true → Keep k r → Gives (Cut text (Sound text at)) (reads r text at)
    go (row t p f) e h =
        let Q = Cut text (λ a. Sound text at (f a)) in
        gives_bind Q (Cut text (Sound text at)) _ _ (gives_bind (Ends text) Q _ _ (start t e) (λ _ n g. h.sound text at n g)) (λ a n g.
        gives_done (Cut text (Sound text at)) (f a) n g)
    go (mark t x) e h = gives_bind (Ends text) (Cut text (Sound text at)) _ _ (start t e) (λ _ n g. gives_done (Cut text (Sound text at)) x n (h.sound text at, g))

none_sound : GivesSound (first_of [])
none_sound text at a n e = absurd (fail_not_ok other_text a n e)

alts_sound : (p q : Parser Tag) → GivesSound p → GivesSound q → GivesSound (alt p q)
alts_sound p q hp hq text at = gives_alt (Cut text (Sound text at)) _ _ (hp text at) (λ _ _. hq text at)

gives_playlist_tag : GivesSound playlist_tag
unfolding playlist_tag
gives_playlist_tag = of_rows GivesSound none_sound alts_sound Keep edged row_sound 0 playlist_rows refl head_kept

gives_segment_tag : GivesSound segment_tag
unfolding segment_tag
gives_segment_tag = of_rows GivesSound none_sound alts_sound Keep edged row_sound clips_from segment_rows refl clip_kept

module _ (text : List ℕ) where
  module _ (at : ℕ) where
    -- ---- and what else may stand there
    module _ (no_head : (why : Why) × (playlist_tag text at ≡ fail why)) (no_clip : (why : Why) × (segment_tag text at ≡ fail why)) where
      gives_unknown : Gives (Cut text (Sound text at)) (unknown_tag text at)
      gives_unknown =
          gives_bind (λ x n. Cut text (SoundExt text) x n × (ext_tag text at ≡ ok x n)) (Cut text (Sound text at)) _ _ (λ x n e. (gives_ext text at x n e, e)) (λ x n h.
          gives_done (Cut text (Sound text at)) (unknown x) n ((h.0.0, record { no_head = no_head; no_clip = no_clip; read = (n, h.1) }), h.0.1))

    gives_comment_line : Gives (Cut text (Sound text at)) (comment_line text at)
    gives_comment_line = gives_bind (Ends text) (Cut text (Sound text at)) _ _ (gives_comment text at) (λ c n h. gives_done (Cut text (Sound text at)) (comment c) n (tt, h))

    module _ (from : Edge text at) (not-blank : NotBlank text at) (there : at < length text) where
      line_sound : (s : Span) → SoundLine text at from (first_byte text at not-blank there) s → Sound text at (uri s)
      line_sound s h = (h.1, rw h.0 (stops_take (run_end (is_none_of (bytes "\r\n")) text at - at) (drop at text) not-blank))

      gives_uri_line : Gives (Cut text (Sound text at)) (uri_line text at)
      gives_uri_line =
          let some_byte = first_byte text at not-blank there in
          gives_bind (Cut text (SoundLine text at from some_byte)) (Cut text (Sound text at)) _ _ (gives_line text at from some_byte) (λ s n h.
          gives_done (Cut text (Sound text at)) (uri s) n (line_sound s h.0, h.1))

      gives_media_segment_tag : (why : Why) → playlist_tag text at ≡ fail why → Gives (Cut text (Sound text at)) (media_segment_tag text at)
      unfolding media_segment_tag other_tag
      gives_media_segment_tag why e =
          gives_alt (Cut text (Sound text at)) _ _ (gives_segment_tag text at) (λ why' e'.
          gives_alt (Cut text (Sound text at)) _ _ (gives_unknown (why, e) (why', e')) (λ _ _.
          gives_alt (Cut text (Sound text at)) _ _ gives_comment_line (λ _ _.
          gives_uri_line)))

      gives_tags : Gives (Cut text (Sound text at)) (or_else (playlist_tag text at) (media_segment_tag text at))
      gives_tags = gives_alt (Cut text (Sound text at)) _ _ (gives_playlist_tag text at) gives_media_segment_tag

    -- from an edge that is no blank
    module _ (from : Edge text at) (not-blank : NotBlank text at) where
      pub gives_media_playlist_tag : Gives (Cut text (Sound text at)) (media_playlist_tag text at)
      unfolding media_playlist_tag
      gives_media_playlist_tag =
          gives_bind (λ _ n. (at < length text) × (n ≡ at)) (Cut text (Sound text at)) _ _
          (gives_when (λ _ n. (at < length text) × (n ≡ at)) (ltb at (length text)) missing_byte tt at (λ q. (ltb-true at (length text) q, refl))) (λ _ n h.
          rw h.1 (gives_tags from not-blank h.0))

  -- ---- a step: what it took, from a place that is an edge and no blank to another
  abbrev pub Here : ℕ → Type 0
  Here at = Edge text at × NotBlank text at

  abbrev pub SoundTaken : Taken → Type 0
  SoundTaken (took at t) = Sound text at t × Here at

  pub gives_step : (at : ℕ) → Here at → Gives (λ t n. SoundTaken t × Here n) (step text at)
  unfolding step
  gives_step at from =
      gives_bind (Cut text (Sound text at)) (λ t n. SoundTaken t × Here n) _ _ (gives_media_playlist_tag at from.0 from.1) (λ t n h.
      gives_done (λ t n. SoundTaken t × Here n) (took at t) (run_end is_multispace text n)
      ((h.0, from), (one_of_ends text n (bytes " \t\r\n") refl h.1, not_blank_after text n)))
