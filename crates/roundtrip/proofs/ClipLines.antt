-- The lines of a clip, where they are ahead: a step takes each, and says what it says. Assumes nothing.
use Prim.Native.Nat.{ℕ, ◌+◌, ◌<◌}
use mathlib.Core.Path.{◌≡◌, refl, sym, ◌∙◌, ap}
use mathlib.Core.Bool.{false, false≢true}
use mathlib.Core.List.{List, [], ◌∷◌, ◌++◌, append_assoc}
use mathlib.Core.Option.{Option, none, some}
use native.Mathlib.Omega.{arith}
use lib.ListN.{length, drop, length-append}
use borrow.Author.Tests.{lt-ltb, le-ltb, eq-eqb}
use Rattle.text.specs.Why.{Why}
use Rattle.text.specs.Nom.{fail, ok, span, span_or, bytes, is_none_of, begins, is_multispace}
use Rattle.text.specs.Util.{ByteRange, byte_range_val}
use Rattle.text.specs.BasicTags.{ExtTag, ext, ext_tag}
use Rattle.text.proofs.Ahead.{Every, Stops, on, in_text, in_ahead, byte_ahead, line_ahead, ext_ahead, ext_bare_ahead, fails_ahead, shows}
use Rattle.lengths.specs.Duration.{ns, extinf}
use Rattle.lengths.proofs.Ahead.{duration_title_ahead}
use Rattle.digits.specs.Digits.{length_text}
use Rattle.tables.specs.Layout.{length_limit}
use Rattle.tags.specs.Tags.{timed, ranged, of_clip, unknown, uri, playlist_tag, segment_tag, other_tag, media_segment_tag, media_playlist_tag, took, literal, byte_range_row, extinf_row}
use Rattle.tags.proofs.Local.{mv_tag, playlist_tag_local, segment_tag_local}
use Rattle.tags.proofs.Begins.{not_hash}
use Rattle.text.specs.Spans.{shown_part}
use Rattle.playlist.specs.Lines.{byte_range_line, unknown_line, extinf_line, uri_line, range_bytes, line_bytes}
use Rattle.roundtrip.proofs.Said.{says_length, says_unknown, says_uri, title_says, Some, NumbersFit, RestFits}
use Rattle.roundtrip.proofs.Steps.{TakesLine, step_takes, part_leaves, at_length, at_range}
use Rattle.roundtrip.proofs.Numbers.{no_digit_lf, no_digit_comma, range_back, length_back}

-- ---- a range
module _ (text : List ℕ) (at : ℕ) (xs : List ℕ) (s : Stops is_multispace xs) where
  pub takes_range : (r : ByteRange) → NumbersFit r → drop at text ≡ line_bytes (byte_range_line r) ++ xs → TakesLine text at (byte_range_line r)
  unfolding begins
  takes_range r h d =
      let f = literal byte_range_row in
      (took at (of_clip (ranged r)), part_leaves text at f (range_bytes r) xs byte_range_val r _ s (at_range text at _ r) d (range_back text (at + length f) r h _ no_digit_lf refl), refl)

-- ---- a URI: a line that no `#` begins
module _ (text : List ℕ) (at : ℕ) (xs : List ℕ) (s : Stops is_multispace xs) where
  no_hash : (x : ℕ) (b : List ℕ) → begins (bytes "#") (x ∷ b) ≡ false → x ≡ 35 → ⊥
  unfolding begins
  no_hash x b q e = false≢true (sym q ∙ rw (eq-eqb x 35 e))

  pub takes_uri : (u : List ℕ) → Some u → begins (bytes "#") u ≡ false → Every (is_none_of (bytes "\r\n")) u → drop at text ≡ line_bytes (uri_line u) ++ xs → TakesLine text at (uri_line u)
  takes_uri [] h q e d = elim h [ ]
  takes_uri (x ∷ b) h q e d =
      let u = x ∷ b in
      let d0 : drop at text ≡ u ++ (bytes "\n" ++ xs) = d ∙ append_assoc u (bytes "\n") xs in
      let z : at + length u + 1 ≡ at + length (u ++ bytes "\n") = omega (arith, length-append u (bytes "\n")) in
      let n = not_hash text at (λ g. no_hash x b q (sym (byte_ahead text at x _ d) ∙ g)) (in_text text at x _ d) in
      (took at (uri (span at (at + length u))), step_takes text at _ (u ++ bytes "\n") xs (rw (n, line_ahead text at u xs e d0, z)) s d, ap says_uri (shows text at u _ d0))

-- ---- a part that may be empty
part_shows : (text : List ℕ) (at : ℕ) (b xs : List ℕ) → drop at text ≡ b ++ xs → shown_part text (span_or at (at + length b)) ≡ title_says b
part_shows text at [] xs d = rw (le-ltb at (at + 0) (omega arith))
part_shows text at (x ∷ b) xs d = rw (lt-ltb at (at + length (x ∷ b)) (omega arith)) (ap some (shows text at (x ∷ b) xs d))

-- ---- a length and a title
module _ (text : List ℕ) (at : ℕ) (xs : List ℕ) (s : Stops is_multispace xs) where
  pub takes_length : (l : ℕ) (t : List ℕ) → l < length_limit → Every (is_none_of (bytes "\r\n,")) t → begins (bytes ",") xs ≡ false → drop at text ≡ line_bytes (extinf_line l t) ++ xs
      → TakesLine text at (extinf_line l t)
  unfolding begins
  takes_length l t h e q d =
      let f = literal extinf_row in
      let a = at + length f in
      let m = a + length (length_text l) in
      let c = m + 1 + length t in
      let d0 : drop at text ≡ f ++ (length_text l ++ (bytes "," ++ (t ++ (bytes "\n" ++ xs)))) = d ∙ simp append_assoc in
      let h1 = on text at f _ d0 in
      let h2 = on text a (length_text l) _ h1 in
      let h3 = on text m (bytes ",") _ h2 in
      let v = extinf (ns l) (span_or (m + 1) c) in
      let r = duration_title_ahead text a m (ns l) t xs (length_back text a l h _ no_digit_comma refl h1) e q h2 in
      let z : c + 1 ≡ at + length (line_bytes (extinf_line l t)) = omega (arith, length-append (length_text l) (bytes "," ++ (t ++ bytes "\n")), length-append t (bytes "\n")) in
      (took at (of_clip (timed v)), step_takes text at _ (line_bytes (extinf_line l t)) xs (rw (← z) (at_length text at _ v (c + 1) d0 r)) s d, ap (says_length (ns l)) (part_shows text (m + 1) t _ h3))

-- ---- an unknown tag: one that no known tag's rule takes
abbrev pub NoneTakes : List ℕ → Type 0
NoneTakes b = ((why : Why) × (playlist_tag b 0 ≡ fail why)) × ((why : Why) × (segment_tag b 0 ≡ fail why))

module _ (text : List ℕ) (at : ℕ) where
  -- what was assumed of the line by itself holds at its place
  at_unknown : (b : List ℕ) (e : ExtTag) (n : ℕ) → NoneTakes (35 ∷ b) → drop at text ≡ 35 ∷ b → ext_tag text at ≡ ok e n → media_playlist_tag text at ≡ ok (unknown e) n
  unfolding media_playlist_tag media_segment_tag other_tag
  at_unknown b e n k d g =
      let i = in_text text at 35 b d in
      let f = fails_ahead mv_tag playlist_tag playlist_tag_local text at (35 ∷ b) (omega arith) d k.0.0 k.0.1 in
      let c = fails_ahead mv_tag segment_tag segment_tag_local text at (35 ∷ b) (omega arith) d k.1.0 k.1.1 in
      rw (in_ahead text at 35 b d, f, c, g)

module _ (text : List ℕ) (at : ℕ) (xs : List ℕ) (s : Stops is_multispace xs) where
  pub takes_unknown : (name : List ℕ) (rest : Option (List ℕ)) → Some name → Every (is_none_of (bytes "\r\n:")) name → RestFits rest
      → NoneTakes (line_bytes (unknown_line name rest) ++ xs) → drop at text ≡ line_bytes (unknown_line name rest) ++ xs → TakesLine text at (unknown_line name rest)
  takes_unknown [] rest h en er k d = elim h [ ]
  takes_unknown (x ∷ name) none h en er k d =
      let a = at + 5 in
      let b = a + length (x ∷ name) in
      let d0 : drop at text ≡ bytes "#EXT-" ++ ((x ∷ name) ++ (bytes "\n" ++ xs)) = d ∙ simp append_assoc in
      let e = ext (span a b) none in
      let z : b + 1 ≡ at + length (line_bytes (unknown_line (x ∷ name) none)) = omega (arith, length-append name (bytes "\n")) in
      let t = at_unknown text at _ e (b + 1) k d (ext_bare_ahead text at x name xs en d0) in (
        took at (unknown e),
        step_takes text at _ (line_bytes (unknown_line (x ∷ name) none)) xs (rw (← z) t) s d,
        ap (λ (n : List ℕ). says_unknown n none) (shows text a (x ∷ name) _ (on text at (bytes "#EXT-") _ d0)),
      )
  takes_unknown (x ∷ name) (some []) h en er k d = absurd er.0
  takes_unknown (x ∷ name) (some (y ∷ rest)) h en er k d =
      let a = at + 5 in
      let b = a + length (x ∷ name) in
      let c = b + 1 + length (y ∷ rest) in
      let d0 : drop at text ≡ bytes "#EXT-" ++ ((x ∷ name) ++ (bytes ":" ++ ((y ∷ rest) ++ (bytes "\n" ++ xs)))) = d ∙ rw (append_assoc name (bytes ":" ++ ((y ∷ rest) ++ bytes "\n")) xs, append_assoc rest (bytes "\n") xs) in
      let h1 = on text at (bytes "#EXT-") _ d0 in
      let h3 = on text b (bytes ":") _ (on text a (x ∷ name) _ h1) in
      let e = ext (span a b) (span_or (b + 1) c) in
      let z : c + 1 ≡ at + length (line_bytes (unknown_line (x ∷ name) (some (y ∷ rest)))) = omega (arith, length-append name (bytes ":" ++ ((y ∷ rest) ++ bytes "\n")), length-append rest (bytes "\n")) in
      let t = at_unknown text at _ e (c + 1) k d (ext_ahead text at x name (y ∷ rest) xs en er.1 d0) in (
        took at (unknown e),
        step_takes text at _ (line_bytes (unknown_line (x ∷ name) (some (y ∷ rest)))) xs (rw (← z) t) s d,
        rw (shows text a (x ∷ name) _ h1, part_shows text (b + 1) (y ∷ rest) _ h3),
      )
