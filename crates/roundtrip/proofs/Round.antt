-- The round trip: what is written of a list that was read is read again, to its end, as the same list. Assumes nothing.
use Prim.Native.Nat.{ℕ, ◌*◌, ◌≤◌}
use mathlib.Core.Path.{◌≡◌, sym, ◌∙◌, ap}
use mathlib.Core.Bool.{true}
use mathlib.Core.List.{List}
use native.Mathlib.Omega.{arith}
use lib.Dec.{leb}
use lib.ListN.{length}
use borrow.Author.Tests.{le-leb, eq-eqb, not-true}
use Rattle.text.specs.BasicTags.{ExtTag, ext}
use Rattle.text.specs.Nom.{bytes}
use Rattle.text.specs.Utf8.{utf8_end}
use Rattle.tables.specs.Layout.{clip_words, tag_words}
use Rattle.tables.specs.Refusal.{given}
use Rattle.tables.specs.Layout.{text_limit}
use Rattle.verdict.specs.Calls.{admitted}
use Rattle.assembly.specs.Assembly.{Head, begin, last_of, clip_count, kept_tags}
use Rattle.media.specs.Calls.{steps_of, stop_of, read, parse_media_playlist, clips_read, tags_read}
use Rattle.text.specs.Spans.{shown, same_bytes}
use Rattle.records.proofs.Same.{same_refl}
use Rattle.playlist.specs.Lines.{tag_line_of}
use Rattle.records.proofs.Back.{All}
use Rattle.roundtrip.specs.Premises.{plain_uris, not_named_map, none_named_map}
use Rattle.roundtrip.specs.RoundTrip.{written_of, ReadsBack}
use Rattle.roundtrip.proofs.Said.{Clean}
use Rattle.roundtrip.proofs.Taken.{Admitted, admitted_text, all_sound}
use Rattle.roundtrip.proofs.Unknown.{clean_unknown}
use Rattle.roundtrip.proofs.Utf8.{Valid, valid_append, valid_plain, valid_part}
use Rattle.roundtrip.proofs.Guaranteed.{SoundTagOf, SoundList, list_sound}
use Rattle.roundtrip.proofs.Premised.{head_clean, type_other, titles_some, clips_clean, tags_clean}
use Rattle.roundtrip.proofs.Spelled.{playlist_valid}
use Rattle.roundtrip.proofs.Fitting.{playlist_says, playlist_stops}
use Rattle.roundtrip.proofs.Media.{verdict_media, header_there}
use Rattle.roundtrip.proofs.Again.{head_read, SaysAgain, SameReading, again, again_met}
use Rattle.roundtrip.proofs.Accepted.{Accepted, accepted_parts, parts_accepted}

-- 1, 2 and 3 let a text through
admits : (text : List ℕ) → Admitted text → admitted text ≡ given tt
unfolding admitted
admits text a = rw (le-leb (length text) text_limit a.short, eq-eqb (utf8_end text 0) (length text) a.utf8, a.begins_so)

tag_clean : (text : List ℕ) (x : ExtTag) → SoundTagOf text x → not_named_map text x ≡ true → Clean (tag_line_of text x)
tag_clean text (ext name rest) h e = clean_unknown text h.1.0 name (not-true (same_bytes (shown text name) (bytes "X-MAP")) e) rest h.0 h.1.1

module _ (text : List ℕ) (sound : SoundList text) (uris : plain_uris text (clips_read text) ≡ true) (names : none_named_map text (tags_read text) ≡ true) where
  abbrev w : List ℕ
  w = written_of text (head_read text)

  clean_tags : All (λ x. Clean (tag_line_of text x)) (tags_read text)
  clean_tags = tags_clean text (tag_clean text) (tags_read text) sound.tags names

  says_again : SaysAgain text w
  says_again =
      playlist_says text (head_read text) (clips_read text) (tags_read text)
      (head_clean text (head_read text) sound.heads) (clips_clean text (tags_read text) clean_tags (clips_read text) sound.clips uris)

  stops_again : stop_of w ≡ length w
  stops_again =
      playlist_stops text (head_read text) (clips_read text) (tags_read text)
      (head_clean text (head_read text) sound.heads) (clips_clean text (tags_read text) clean_tags (clips_read text) sound.clips uris)

  same_again : SameReading text w
  same_again = again text w (type_other text (head_read text) sound.heads) (titles_some text (clips_read text) sound.clips) says_again

module _ (text : List ℕ) (clipRoom tagRoom : ℕ) (h : Head) (clips tags stop : ℕ) where
  pub round_trip :
      parse_media_playlist text clipRoom tagRoom ≡ given (read h clips tags stop)
      → plain_uris text (clips_read text) ≡ true
      → none_named_map text (tags_read text) ≡ true
      → length (written_of text h) ≤ text_limit
      → (clipRoom₁ tagRoom₁ : ℕ)
      → clips * clip_words ≤ clipRoom₁
      → tags * tag_words ≤ tagRoom₁
      → ReadsBack text clipRoom₁ tagRoom₁ h clips tags
  round_trip e uris names short clipRoom₁ tagRoom₁ clips-fit tags-fit =
      let k = accepted_parts text clipRoom tagRoom (read h clips tags stop) e in
      let q = k.answer in
      let z : head_read text ≡ h = cc in
      let a = admitted_text text k.admits in
      let sound = list_sound text (all_sound text k.admits) in
      let v = written_of text (head_read text) in
      let same = same_again text sound uris names in
      let valid = playlist_valid Valid valid_append valid_plain text (λ p i j part. valid_part text a.utf8 i j (omega (arith, part.long)) part.within part.starts part.ends) (head_read text) (clips_read text) (tags_read text) sound.heads sound.clips sound.tags in
      let let_in : Admitted v = record { short = rw z short; utf8 = valid; begins_so = header_there text (head_read text) (clips_read text) (tags_read text) } in
      let counts : clip_count (last_of begin (steps_of text)) ≡ clips = cc in
      let kept : kept_tags (last_of begin (steps_of text)) ≡ tags = cc in
      let back : Accepted v clipRoom₁ tagRoom₁ (read (head_read v) clips tags (length v)) =
      record {
        admits = admits v let_in;
        is_media = verdict_media text (head_read text) (clips_read text) (tags_read text);
        clips_fit = ap (λ (n : ℕ). leb (n * clip_words) clipRoom₁) (sym same.count ∙ counts) ∙ le-leb (clips * clip_words) clipRoom₁ clips-fit;
        tags_fit = ap (λ (n : ℕ). leb (n * tag_words) tagRoom₁) (sym same.kept ∙ kept) ∙ le-leb (tags * tag_words) tagRoom₁ tags-fit;
        answer = rw (← same.count, ← same.kept, counts, kept, stops_again text sound uris names);
      } in
      let accepts = parts_accepted v clipRoom₁ tagRoom₁ (read (head_read v) clips tags (length v)) back (λ x. again_met text v x (says_again text sound uris names)) in
      rw (← z) (record { head = head_read v; accepted = accepts; same = rw same.list (same_refl _) })
