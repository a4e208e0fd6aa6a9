-- Where a line does not begin with `#`, none but the URI can hold; one that begins with `#EXTINF:` is taken as an EXTINF, if it reads. Assumes nothing.
use Prim.Native.Nat.{ℕ, ◌+◌, ◌<◌}
use mathlib.Core.Path.{◌≡◌, refl, sym, ◌∙◌, ap}
use mathlib.Core.Bool.{true}
use mathlib.Core.List.{List, []}
use mathlib.Core.Option.{some}
use native.Mathlib.Nat.{add-zero}
use native.Mathlib.Omega.{arith}
use lib.ListN.{length, get_or}
use borrow.Author.Tests.{lt-ltb}
use Rattle.text.specs.Why.{other_text}
use Rattle.text.specs.Nom.{fail, ok, bytes, is_one_of, tagged, or_else}
use Rattle.text.specs.BasicTags.{ext_tag, comment_tag}
use Rattle.text.proofs.Laws.{tagged_not, tagged_within}
use Rattle.text.proofs.Chain.{alt_skip, alt_here}
use Rattle.lengths.specs.Duration.{Extinf, duration_title_tag}
use Rattle.tags.specs.Tags.{ClipTag, timed, ranged, discontinuity, mapped, timed_of, of_clip, Row, matched, reads, unknown_tag, comment_line, uri_line, playlist_rows, playlist_tag, segment_rows, segment_tag, other_tag, media_segment_tag, media_playlist_tag, literal, extinf_row}
use Rattle.tags.proofs.Rows.{hold_all}
use Rattle.tags.proofs.Matched.{others, playlist_matched, segment_matched}
use Rattle.tags.proofs.Letters.{byte_at, long, no_byte}

-- the one tag of a clip that tells an EXTINF
pub timed_back : (t : ClipTag) (e : Extinf) → timed_of t ≡ some e → t ≡ timed e
timed_back (timed e) x q = cc
timed_back (ranged r) x q = cc
timed_back discontinuity x q = cc
timed_back (mapped m) x q = cc

module _ (text : List ℕ) (at : ℕ) where
  -- a byte is there: the tags of the head are tried first
  pub head_first : at < length text → or_else (playlist_tag text at) (media_segment_tag text at) ≡ media_playlist_tag text at
  unfolding media_playlist_tag
  head_first h = rw (lt-ltb at (length text) h)

  -- a line that does not begin with `#`
  module _ (not_so : get_or text at 0 ≡ 35 → ⊥) where
    none_matched : (rs : List Row) → hold_all long rs ≡ true → hold_all (λ r. is_one_of (bytes "#") (byte_at 0 r)) rs ≡ true → matched rs text at ≡ fail other_text
    none_matched = no_byte text at 0 (omega arith) (ap (λ (n : ℕ). get_or text n 0) (sym (add-zero at))) (bytes "#") (tt, not_so)

    playlist_none : fail other_text ≡ playlist_tag text at
    playlist_none = rw (none_matched playlist_rows refl refl) at (playlist_matched text at)

    segment_none : fail other_text ≡ segment_tag text at
    segment_none = rw (none_matched segment_rows refl refl) at (segment_matched text at)

    unknown_none : unknown_tag text at ≡ fail other_text
    unfolding ext_tag
    unknown_none = rw (tagged_not 35 (bytes "EXT-") text at not_so)

    comment_none : comment_line text at ≡ fail other_text
    unfolding comment_tag
    comment_none = rw (tagged_not 35 [] text at not_so)

    other_uri : uri_line text at ≡ other_tag text at
    unfolding other_tag
    other_uri = alt_skip _ _ _ other_text unknown_none (alt_skip _ _ _ other_text comment_none refl)

    segment_uri : uri_line text at ≡ media_segment_tag text at
    unfolding media_segment_tag
    segment_uri = alt_skip _ _ _ other_text (sym segment_none) other_uri

    -- is a URI
    pub not_hash : at < length text → media_playlist_tag text at ≡ uri_line text at
    not_hash h = sym (alt_skip _ _ _ other_text (sym playlist_none) segment_uri ∙ head_first h)

  -- a line that begins with `#EXTINF:`
  module _ (there : tagged (literal extinf_row) text at ≡ true) where
    -- is no tag of the head
    no_head : fail other_text ≡ playlist_tag text at
    no_head = rw (others text at (literal extinf_row) there playlist_rows refl) at (playlist_matched text at)

    -- and is taken as an EXTINF, if it reads
    module _ (e : Extinf) (n : ℕ) (r : duration_title_tag text (at + length (literal extinf_row)) ≡ ok e n) where
      clip_extinf : ok (of_clip (timed e)) n ≡ segment_tag text at
      unfolding segment_tag
      clip_extinf = alt_here (reads extinf_row text at) _ (of_clip (timed e)) n (rw (there, r))

      segment_extinf : ok (of_clip (timed e)) n ≡ media_segment_tag text at
      unfolding media_segment_tag
      segment_extinf = alt_here (segment_tag text at) _ (of_clip (timed e)) n (sym clip_extinf)

      pub extinf_taken : media_playlist_tag text at ≡ ok (of_clip (timed e)) n
      extinf_taken = sym (alt_skip _ _ _ other_text (sym no_head) segment_extinf ∙ head_first (omega (arith, tagged_within _ _ _ (omega arith) there)))
