-- What the rules behind a tag give: types, unknown tags, lengths with titles, maps, lines. Each span is a part of the text whose bytes are of the right kind,
-- between two edges. Assumes nothing.
use Prim.Native.Nat.{ℕ, ◌-◌, ◌≤◌, ◌<◌}
use mathlib.Core.Path.{◌≡◌, refl, sym, ◌∙◌}
use mathlib.Core.Bool.{Bool, true, false, cond, not, ◌||◌}
use mathlib.Core.List.{List, [], ◌∷◌}
use mathlib.Core.Option.{Option, none, some}
use native.Mathlib.Omega.{arith}
use lib.ListN.{length}
use Rattle.text.specs.Why.{type_empty, name_empty, missing_byte, no_uri, uri_not_quoted, range_not_quoted, range_bad, lone_cr}
use Rattle.text.specs.Nom.{Res, fail, ok, Span, span, bytes, is_none_of, tagged, run_end, after_tag, span_or, bind, or_else, or_none, tag, peek_none_of, take_until, is_space}
use Rattle.text.specs.Many.{many0, items, stop}
use Rattle.text.specs.Util.{spells, ByteRange, byte_range_val, consume_line}
use Rattle.text.specs.BasicTags.{ExtTag, ext, ext_tag, comment_tag, PlaylistType, event, vod, other, from_str, playlist_type}
use Rattle.text.proofs.Spans.{spells_shown}
use Rattle.text.proofs.Takes.{fail_not_ok}
use Rattle.attributes.specs.Pairs.{QuotedOrUnquoted, bare, in_quotes, Pair, pair, quoted, unquoted, key_value_pair, next_pair, inserted, get}
use Rattle.attributes.specs.ExtMap.{Map, ext_map, uri_of, begun, range_of, extmap}
use Rattle.attributes.proofs.Source.{takes_extmap}
use Rattle.attributes.proofs.Walk.{map_by_attrs}
use Rattle.lengths.specs.Duration.{counted, digits, Length, ns, too_many_digits, length_of, float, Extinf, extinf, duration_title_tag}
use Rattle.lengths.proofs.Sides.{float_below}
use Rattle.tables.specs.Layout.{length_limit}
use Rattle.text.specs.Spans.{shown, same_bytes}
use Rattle.records.specs.Same.{other_shown}
use Rattle.records.proofs.Back.{All}
use Rattle.roundtrip.proofs.Said.{RangeFits, NumbersFit, type_says}
use Rattle.roundtrip.proofs.Edges.{Edge, before, none_of_ends, after_ends}
use Rattle.roundtrip.proofs.Gives.{If, Gives, Any, gives_any, gives_done, gives_when, gives_alt, gives_opt, gives_bind, many_gives, Shows, Ends, Stopped, gives_tag, run_shows, gives_is_not, span_or_shows, gives_one, gives_digits, Cut, gives_range}

-- ---- a type
module _ (text : List ℕ) where
  abbrev pub SoundType : PlaylistType → Type 0
  SoundType event = Unit {0}
  SoundType vod = Unit {0}
  SoundType (other s) = Shows (is_none_of (bytes "\r\n")) text s × (type_says (shown text s) ≡ other_shown (shown text s))

  type_sound : (s : Span) → Shows (is_none_of (bytes "\r\n")) text s → SoundType (from_str text s)
  unfolding type_says
  type_sound (span a b) h = go (spells text (span a b) (bytes "EVENT")) (spells text (span a b) (bytes "VOD")) refl refl
    where
      same : (word : List ℕ) → spells text (span a b) word ≡ same_bytes (shown text (span a b)) word
      same = spells_shown text a b (omega (arith, h.long)) h.within

      go : (c d : Bool) → spells text (span a b) (bytes "EVENT") ≡ c → spells text (span a b) (bytes "VOD") ≡ d → SoundType (cond c event (cond d vod (other (span a b))))
      go true d x y = tt
      go false true x y = tt
      go false false x y = (h, rw (sym (same (bytes "EVENT")) ∙ x, sym (same (bytes "VOD")) ∙ y))

  pub gives_type : (at : ℕ) → Edge text at → Gives (Cut text SoundType) (playlist_type text at)
  unfolding playlist_type
  gives_type at from =
      gives_bind (Stopped text (Shows (is_none_of (bytes "\r\n")) text)) (Cut text SoundType) _ _ (gives_is_not text at (bytes "\r\n") refl from type_empty) (λ s n h.
      gives_bind (Ends text) (Cut text SoundType) _ _ (gives_one text n h.1) (λ _ m k.
      gives_done (Cut text SoundType) (from_str text s) m (type_sound s h.0, k)))

  -- ---- an unknown tag and a comment
  abbrev pub SoundExt : ExtTag → Type 0
  SoundExt (ext name rest) = Shows (is_none_of (bytes "\r\n:")) text name × If (Shows (is_none_of (bytes "\r\n")) text) rest

  pub gives_ext : (at : ℕ) → Gives (Cut text SoundExt) (ext_tag text at)
  unfolding ext_tag
  gives_ext at =
      gives_bind (Ends text) (Cut text SoundExt) _ _ (gives_tag text at (bytes "#EXT-") (omega arith) (omega arith)) (λ _ n h.
      gives_bind (Stopped text (Shows (is_none_of (bytes "\r\n:")) text)) (Cut text SoundExt) _ _ (gives_is_not text n (bytes "\r\n:") refl h name_empty) (λ name n k.
      let m = after_tag (bytes ":") text n in
      let e = run_end (is_none_of (bytes "\r\n")) text m in
      let from = after_ends text n (bytes ":") (omega arith) (omega arith) (before k.1) in
      gives_bind (Ends text) (Cut text SoundExt) _ _ (gives_one text e (none_of_ends text m (bytes "\r\n") refl)) (λ _ n j.
      gives_done (Cut text SoundExt) (ext name (span_or m e)) n ((k.0, span_or_shows text m (bytes "\r\n") refl from), j))))

  pub gives_comment : (at : ℕ) → Gives (Ends text) (comment_tag text at)
  unfolding comment_tag
  gives_comment at =
      gives_bind (Ends text) (Ends text) _ _ (gives_tag text at (bytes "#") (omega arith) (omega arith)) (λ _ n h.
      gives_bind (Ends text) (Ends text) _ _ (gives_one text (run_end (is_none_of (bytes "\r\n")) text n) (none_of_ends text n (bytes "\r\n") refl)) (λ _ m j.
      gives_done (Ends text) _ m j))

  -- ---- a length and a title
  abbrev pub SoundLength : Length → Type 0
  SoundLength (ns l) = l < length_limit
  SoundLength too_many_digits = Unit {0}

  abbrev pub SoundExtinf : Extinf → Type 0
  SoundExtinf (extinf l t) = SoundLength l × If (Shows (is_none_of (bytes "\r\n,")) text) t

  length_sound : (at n : ℕ) (l : Length) → float text at ≡ ok l n → SoundLength l
  length_sound at n (ns l) e = float_below text at n l e
  length_sound at n too_many_digits e = tt

  gives_counted : (at : ℕ) → Edge text at → Gives (Ends text) (counted text at)
  unfolding counted
  gives_counted at from =
      gives_bind (Ends text) (Ends text) _ _ (gives_digits text at from) (λ v n h.
      gives_done (Ends text) (digits v (n - at)) n h)

  gives_fraction : (at : ℕ) → Gives (Ends text) (bind (tag (bytes ".") text at) (λ _ n. counted text n))
  gives_fraction at = gives_bind (Ends text) (Ends text) _ _ (gives_tag text at (bytes ".") (omega arith) (omega arith)) (λ _ n h. gives_counted n h)

  float_ends : (at : ℕ) → Edge text at → Gives (Ends text) (float text at)
  unfolding float
  float_ends at from =
      gives_bind (Ends text) (Ends text) _ _ (gives_counted at from) (λ left n h.
      gives_bind (Ends text) (Ends text) _ _ (gives_opt (Ends text) (Ends text) _ n h (λ d m k. k) (gives_fraction n)) (λ right m k.
      gives_done (Ends text) (length_of left right) m k))

  gives_float : (at : ℕ) → Edge text at → Gives (Cut text SoundLength) (float text at)
  gives_float at from l n e = (length_sound at n l e, float_ends at from l n e)

  pub gives_extinf : (at : ℕ) → Edge text at → Gives (Cut text SoundExtinf) (duration_title_tag text at)
  unfolding duration_title_tag
  gives_extinf at from =
      gives_bind (Cut text SoundLength) (Cut text SoundExtinf) _ _ (gives_float at from) (λ l n h.
      let m = after_tag (bytes ",") text n in
      let e = run_end (is_none_of (bytes "\r\n,")) text m in
      let title = after_ends text n (bytes ",") (omega arith) (omega arith) h.1 in
      gives_bind (Ends text) (Cut text SoundExtinf) _ _ (gives_one text e (none_of_ends text m (bytes "\r\n,") refl)) (λ _ n j.
      gives_done (Cut text SoundExtinf) (extinf l (span_or m e)) (after_tag (bytes ",") text n)
      ((h.0, span_or_shows text m (bytes "\r\n,") refl title), after_ends text n (bytes ",") (omega arith) (omega arith) j)))

  -- ---- a map
  abbrev SoundValue : QuotedOrUnquoted → Type 0
  SoundValue (bare s) = Unit {0}
  SoundValue (in_quotes s) = Shows (is_none_of (bytes "\"")) text s

  abbrev SoundPair : Pair → Type 0
  SoundPair (pair left right) = SoundValue right

  gives_quoted : (at : ℕ) → Gives (Cut text SoundValue) (quoted text at)
  unfolding quoted
  gives_quoted at =
      gives_bind (Ends text) (Cut text SoundValue) _ _ (gives_tag text at (bytes "\"") (omega arith) (omega arith)) (λ _ n h.
      gives_bind (Stopped text (Shows (is_none_of (bytes "\"")) text)) (Cut text SoundValue) _ _ (gives_is_not text n (bytes "\"") refl h missing_byte) (λ s n k.
      gives_bind (Ends text) (Cut text SoundValue) _ _ (gives_tag text n (bytes "\"") (omega arith) (omega arith)) (λ _ n j.
      gives_done (Cut text SoundValue) (in_quotes s) n (k.0, j))))

  gives_unquoted : (at : ℕ) → Edge text at → Gives (Cut text SoundValue) (unquoted text at)
  unfolding unquoted
  gives_unquoted at from =
      gives_bind (Stopped text (Shows (is_none_of (bytes ",\r\n")) text)) (Cut text SoundValue) _ _ (gives_is_not text at (bytes ",\r\n") refl from missing_byte) (λ s n k.
      gives_done (Cut text SoundValue) (bare s) n (tt, before k.1))

  gives_pair : (at : ℕ) → Gives (Cut text SoundPair) (key_value_pair text at)
  unfolding key_value_pair
  gives_pair at =
      gives_bind Any (Cut text SoundPair) _ _ (gives_any (peek_none_of (bytes "\r\n") text at)) (λ _ n _.
      gives_bind Any (Cut text SoundPair) _ _ (gives_any (take_until (bytes "=") text n)) (λ left n _.
      gives_bind (Ends text) (Cut text SoundPair) _ _ (gives_tag text n (bytes "=") (omega arith) (omega arith)) (λ _ n h.
      gives_bind (Cut text SoundValue) (Cut text SoundPair) _ _ (gives_alt (Cut text SoundValue) _ _ (gives_quoted n) (λ _ _. gives_unquoted n h)) (λ right n k.
      gives_done (Cut text SoundPair) (pair left right) (after_tag (bytes ",") text n) (k.0, after_ends text n (bytes ",") (omega arith) (omega arith) k.1)))))

  gives_next_pair : (at : ℕ) → Gives (Cut text SoundPair) (next_pair text at)
  unfolding next_pair
  gives_next_pair at = gives_pair (run_end is_space text at)

  -- what a list has under a name is a pair's value
  inserted_sound : (name : List ℕ) (ps : List Pair) (held : Option QuotedOrUnquoted) → If SoundValue held → All SoundPair ps → If SoundValue (inserted text name held ps)
  unfolding inserted All
  inserted_sound name [] held h k = h
  inserted_sound name (pair left right ∷ ps) held h k = inserted_sound name ps (cond (spells text left name) (some right) held) (go (spells text left name)) k.1
    where
      go : (b : Bool) → If SoundValue (cond b (some right) held)
      go true = k.0
      go false = h

  gives_uri_of : (v : Option QuotedOrUnquoted) (at : ℕ) → If SoundValue v → Gives (λ u n. Shows (is_none_of (bytes "\"")) text u × (n ≡ at)) (uri_of v text at)
  gives_uri_of none at h = λ a n e. absurd (fail_not_ok no_uri a n e)
  gives_uri_of (some (bare s)) at h = λ a n e. absurd (fail_not_ok uri_not_quoted a n e)
  gives_uri_of (some (in_quotes s)) at h = gives_done (λ u n. Shows (is_none_of (bytes "\"")) text u × (n ≡ at)) s at (h, refl)

  gives_begun : (x : Res ByteRange) (at : ℕ) → Gives (Cut text NumbersFit) x → Gives (λ r n. RangeFits r × (n ≡ at)) (begun x at)
  gives_begun (fail why) at g = λ a n e. absurd (fail_not_ok range_bad a n e)
  gives_begun (ok r m) at g = gives_done (λ r n. RangeFits r × (n ≡ at)) (some r) at ((g r m refl).0, refl)

  gives_range_of : (v : Option QuotedOrUnquoted) (at : ℕ) → If SoundValue v → Gives (λ r n. RangeFits r × (n ≡ at)) (range_of v text at)
  gives_range_of none at h = gives_done (λ r n. RangeFits r × (n ≡ at)) none at (tt, refl)
  gives_range_of (some (bare s)) at h = λ a n e. absurd (fail_not_ok range_not_quoted a n e)
  gives_range_of (some (in_quotes (span s e))) at h = gives_begun (byte_range_val text s) at (gives_range text s h.starts)

  abbrev ListFits : Span → Type 0
  ListFits (span a b) = (a ≤ b) × (b ≤ length text)

  abbrev pub SoundMap : Map → Type 0
  SoundMap (ext_map u r l) = Shows (is_none_of (bytes "\"")) text u × RangeFits r × ListFits l

  -- the list of a map that is read has bytes, which stand in the text
  map_within : (at n : ℕ) (x : Map) → extmap text at ≡ ok x n → (at ≤ n) × (n ≤ length text)
  map_within at n x e = let w = takes_extmap text at n x e in (omega (arith, w.0), w.1 (omega (arith, w.0)))

  gives_map_parts : (at : ℕ) → Edge text at → Gives (λ x n. (ListFits (span at n) → SoundMap x) × Edge text n) (extmap text at)
  gives_map_parts at from =
      let m = many0 next_pair text at in
      let Q : Map → ℕ → Type 0 = λ x n. (ListFits (span at n) → SoundMap x) × Edge text n in
      let each = many_gives SoundPair (Edge text) next_pair text (λ n _. gives_next_pair n) at from in
      let sound : (name : List ℕ) → If SoundValue (get text name (items m)) = λ name. inserted_sound name (items m) none tt each.0 in
      rw (map_by_attrs text at (get text (bytes "URI") (items m)) (get text (bytes "BYTERANGE") (items m)) (stop m) refl refl refl)
      (gives_bind (λ u n. Shows (is_none_of (bytes "\"")) text u × (n ≡ stop m)) Q _ _ (gives_uri_of (get text (bytes "URI") (items m)) (stop m) (sound (bytes "URI"))) (λ u n h. rw h.1 (
      gives_bind (λ r n. RangeFits r × (n ≡ stop m)) Q _ _ (gives_range_of (get text (bytes "BYTERANGE") (items m)) (stop m) (sound (bytes "BYTERANGE"))) (λ r n k. rw k.1 (
      gives_done Q (ext_map u r (span at (stop m))) (stop m) (λ l. (h.0, k.0, l), each.1))))))

  pub gives_map : (at : ℕ) → Edge text at → Gives (Cut text SoundMap) (extmap text at)
  gives_map at from x n e = let h = gives_map_parts at from x n e in (h.0 (map_within at n x e), h.1)

  -- ---- a line: a URI begins where its step does, with a byte that ends no line
  module _ (at : ℕ) (from : Edge text at) (some_byte : at < run_end (is_none_of (bytes "\r\n")) text at) where
    gives_break : (n : ℕ) → Edge text n → Gives (Ends text) (or_none (or_else (tag (bytes "\n") text n) (tag (bytes "\r\n") text n)) n)
    gives_break n h =
        gives_opt (Ends text) (Ends text) _ n h (λ _ m k. k)
        (gives_alt (Ends text) _ _ (gives_tag text n (bytes "\n") (omega arith) (omega arith)) (λ _ _. gives_tag text n (bytes "\r\n") (omega arith) (omega arith)))

    abbrev pub SoundLine : Span → Type 0
    SoundLine s = (s ≡ span at (run_end (is_none_of (bytes "\r\n")) text at)) × Shows (is_none_of (bytes "\r\n")) text s

    pub gives_line : Gives (Cut text SoundLine) (consume_line text at)
    unfolding consume_line
    gives_line =
        let e = run_end (is_none_of (bytes "\r\n")) text at in
        let whole = not (tagged (bytes "\r") text e) || tagged (bytes "\r\n") text e in
        gives_bind (λ s n. (s ≡ span at e) × (n ≡ e)) (Cut text SoundLine) _ _ (gives_when (λ s n. (s ≡ span at e) × (n ≡ e)) whole lone_cr (span at e) e (λ _. (refl, refl))) (λ s n h.
        gives_bind (Ends text) (Cut text SoundLine) _ _ (gives_break n (rw h.1 (before (none_of_ends text at (bytes "\r\n") refl)))) (λ _ m k.
        gives_done (Cut text SoundLine) s m ((h.0, rw h.0 (run_shows text at (bytes "\r\n") refl from some_byte)), k)))
