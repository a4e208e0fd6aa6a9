-- Pairs and the list of a MAP where the bytes ahead are known: what was written is read back. Assumes nothing.
use Prim.Native.Nat.{ℕ, ◌+◌}
use mathlib.Core.Path.{◌≡◌, refl, ◌∙◌, ap}
use mathlib.Core.Bool.{true, false}
use mathlib.Core.List.{List, [], ◌∷◌, ◌++◌}
use mathlib.Core.Option.{none, some}
use native.Mathlib.Nat.{add-zero}
use lib.ListN.{length, drop}
use Rattle.text.specs.Why.{missing_byte}
use Rattle.text.specs.Nom.{fail, ok, span, bytes, is_digit, is_none_of, begins, tagged, run, run_end, decimal, after_tag, is_space}
use Rattle.text.specs.Many.{many, many0, push}
use Rattle.text.specs.Util.{parsed, number, ByteRange, range, byte_range_val, spells}
use Rattle.text.proofs.Many.{many_stop, many_step}
use Rattle.text.proofs.Ahead.{Every, EndsLine, on, in_ahead, out_ahead, byte_ahead, run_ahead, tag_ahead, after_ahead, after_not, while1_ahead, peek_ahead, until_ahead, spells_ahead, shows}
use Rattle.attributes.specs.Pairs.{in_quotes, Pair, pair, quoted, key_value_pair, next_pair, inserted}
use Rattle.attributes.specs.ExtMap.{ext_map, begun, extmap}
use Rattle.attributes.proofs.Walk.{pairs_fall, map_by_attrs}
use Rattle.attributes.proofs.Alone.{begun_alone}

-- a pair as it is written, with its value in quotes
abbrev pub pair_bytes : List ℕ → List ℕ → List ℕ → List ℕ
pair_bytes name val rest = name ++ (bytes "=" ++ (bytes "\"" ++ (val ++ (bytes "\"" ++ rest))))

module _ (text : List ℕ) (at : ℕ) where
  pub quoted_ahead : (y : ℕ) (val xs : List ℕ) → Every (is_none_of (bytes "\"")) (y ∷ val) → drop at text ≡ bytes "\"" ++ ((y ∷ val) ++ (bytes "\"" ++ xs))
      → (let e = at + 1 + length (y ∷ val) in quoted text at ≡ ok (in_quotes (span (at + 1) e)) (e + 1))
  unfolding quoted
  quoted_ahead y val xs ev h0 =
      let e = at + 1 + length (y ∷ val) in
      let h1 = on text at (bytes "\"") _ h0 in
      let h2 = on text (at + 1) (y ∷ val) _ h1 in
      rw (tag_ahead text at (bytes "\"") _ h0, while1_ahead text (at + 1) missing_byte (is_none_of (bytes "\"")) y val _ ev refl h1, tag_ahead text e (bytes "\"") _ h2)

  -- no pair begins where a line ends
  pub no_pair_ahead : (xs : List ℕ) → EndsLine xs → drop at text ≡ xs → next_pair text at ≡ fail missing_byte
  unfolding next_pair key_value_pair Every
  no_pair_ahead [] s h = rw (run_ahead text at is_space [] [] tt tt h, add-zero at, out_ahead text at h)
  no_pair_ahead (x ∷ xs) s h = rw (run_ahead text at is_space [] (x ∷ xs) tt (rw s) h, add-zero at, in_ahead text at x xs h, byte_ahead text at x xs h, s)

module _ (text : List ℕ) (at : ℕ) (x : ℕ) (name : List ℕ) (y : ℕ) (val xs : List ℕ) (p : is_none_of (bytes "\r\n") x ≡ true) (en : Every (is_none_of (bytes "=")) (x ∷ name))
    (ev : Every (is_none_of (bytes "\"")) (y ∷ val)) (h0 : drop at text ≡ pair_bytes (x ∷ name) (y ∷ val) xs) where
  -- a name without `=` that does not start with CR or LF; a value in quotes, of at least one byte and without a quote mark; perhaps a comma
  pub pair_ahead : let b = at + length (x ∷ name) in
      let e = b + 1 + 1 + length (y ∷ val) in
      key_value_pair text at ≡ ok (pair (span at b) (in_quotes (span (b + 1 + 1) e))) (after_tag (bytes ",") text (e + 1))
  unfolding key_value_pair
  pair_ahead =
      let b = at + length (x ∷ name) in
      let h1 = on text at (x ∷ name) _ h0 in
      let h2 = on text b (bytes "=") _ h1 in
      rw (peek_ahead text at (bytes "\r\n") x _ p h0, until_ahead text at (bytes "=") (x ∷ name) 61 _ en refl h0, tag_ahead text b (bytes "=") _ h1, quoted_ahead text (b + 1) y val _ ev h2)

  -- what follows it
  pub after_pair : drop (at + length (x ∷ name) + 1 + 1 + length (y ∷ val) + 1) text ≡ xs
  after_pair =
      let b = at + length (x ∷ name) in
      on text (b + 1 + 1 + length (y ∷ val)) (bytes "\"") _ (on text (b + 1 + 1) (y ∷ val) _ (on text (b + 1) (bytes "\"") _ (on text b (bytes "=") _ (on text at (x ∷ name) _ h0))))

  pub next_pair_ahead : is_space x ≡ false →
      let b = at + length (x ∷ name) in
      let e = b + 1 + 1 + length (y ∷ val) in
      next_pair text at ≡ ok (pair (span at b) (in_quotes (span (b + 1 + 1) e))) (after_tag (bytes ",") text (e + 1))
  unfolding next_pair Every
  next_pair_ahead f = rw (run_ahead text at is_space [] _ tt f h0, add-zero at) pair_ahead

-- ---- the list of a MAP, before the line's end
no_comma : (xs : List ℕ) → EndsLine xs → begins (bytes ",") xs ≡ false
unfolding begins
no_comma [] s = refl
no_comma (x ∷ xs) s = rw s

-- where the URI stands, and the byte range after it
abbrev pub uri_from : ℕ → ℕ
uri_from at = at + 3 + 1 + 1

abbrev pub uri_to : ℕ → List ℕ → ℕ
uri_to at uri = uri_from at + length uri

abbrev pub range_from : ℕ → List ℕ → ℕ
range_from at uri = uri_to at uri + 1 + 1 + 9 + 1 + 1

abbrev pub range_to : ℕ → List ℕ → List ℕ → ℕ
range_to at uri rng = range_from at uri + length rng

module _ (text : List ℕ) (at y : ℕ) (val : List ℕ) (ev : Every (is_none_of (bytes "\"")) (y ∷ val)) where
  abbrev to : ℕ
  to = uri_to at (y ∷ val)

  abbrev uri_pair : Pair
  uri_pair = pair (span at (at + 3)) (in_quotes (span (uri_from at) to))

  module _ (xs : List ℕ) (h : drop at text ≡ pair_bytes (bytes "URI") (y ∷ val) xs) where
    uri_read : next_pair text at ≡ ok uri_pair (after_tag (bytes ",") text (to + 1))
    unfolding Every
    uri_read = next_pair_ahead text at 85 (bytes "RI") y val xs refl (refl, (refl, (refl, tt))) ev h refl

    after_uri : drop (to + 1) text ≡ xs
    unfolding Every
    after_uri = after_pair text at 85 (bytes "RI") y val xs refl (refl, (refl, (refl, tt))) ev h

    is_uri : spells text (span at (at + 3)) (bytes "URI") ≡ true
    unfolding spells tagged begins
    is_uri = spells_ahead text at (bytes "URI") (bytes "URI") _ h

    is_no_range : spells text (span at (at + 3)) (bytes "BYTERANGE") ≡ false
    unfolding spells tagged begins
    is_no_range = spells_ahead text at (bytes "BYTERANGE") (bytes "URI") _ h

  -- URI only
  pub map_uri_ahead : (xs : List ℕ) → EndsLine xs → drop at text ≡ pair_bytes (bytes "URI") (y ∷ val) xs
      → (let e = uri_to at (y ∷ val) in extmap text at ≡ ok (ext_map (span (uri_from at) e) none (span at (e + 1))) (e + 1))
  unfolding inserted
  map_uri_ahead xs s h =
      let d = after_uri xs h in
      let r : next_pair text at ≡ ok uri_pair (to + 1) = rw (← after_not text (to + 1) (bytes ",") xs d (no_comma xs s)) (uri_read xs h) in
      let end = many_stop next_pair text (pairs_fall text) (to + 1) missing_byte (no_pair_ahead text (to + 1) xs s d) in
      let m : many0 next_pair text at ≡ many (uri_pair ∷ []) (to + 1) = many_step next_pair text (pairs_fall text) at (to + 1) uri_pair r ∙ ap (push uri_pair) end in
      map_by_attrs text at (some (in_quotes (span (uri_from at) to))) none (to + 1) (rw (m, is_uri xs h)) (rw (m, is_no_range xs h)) (rw m)

  -- URI and BYTERANGE
  module _ (z : ℕ) (rng xs : List ℕ) (er : Every (is_none_of (bytes "\"")) (z ∷ rng)) (s : EndsLine xs)
      (h : drop at text ≡ pair_bytes (bytes "URI") (y ∷ val) (bytes "," ++ pair_bytes (bytes "BYTERANGE") (z ∷ rng) xs)) where
    abbrev next : ℕ
    next = to + 1 + 1

    abbrev rest : List ℕ
    rest = pair_bytes (bytes "BYTERANGE") (z ∷ rng) xs

    abbrev a : ℕ
    a = range_from at (y ∷ val)

    abbrev b : ℕ
    b = range_to at (y ∷ val) (z ∷ rng)

    abbrev range_pair : Pair
    range_pair = pair (span next (next + 9)) (in_quotes (span a b))

    h1 : drop next text ≡ rest
    h1 = on text (to + 1) (bytes ",") _ (after_uri (bytes "," ++ rest) h)

    first_read : next_pair text at ≡ ok uri_pair next
    first_read = rw (← after_ahead text (to + 1) (bytes ",") _ (after_uri (bytes "," ++ rest) h)) (uri_read (bytes "," ++ rest) h)

    all_name : Every (is_none_of (bytes "=")) (bytes "BYTERANGE")
    unfolding Every
    all_name = (refl, (refl, (refl, (refl, (refl, (refl, (refl, (refl, (refl, tt)))))))))

    after_range : drop (b + 1) text ≡ xs
    after_range = after_pair text next 66 (bytes "YTERANGE") z rng xs refl all_name er h1

    second_read : next_pair text next ≡ ok range_pair (b + 1)
    second_read = rw (← after_not text (b + 1) (bytes ",") xs after_range (no_comma xs s)) (next_pair_ahead text next 66 (bytes "YTERANGE") z rng xs refl all_name er h1 refl)

    both_read : many0 next_pair text at ≡ many (uri_pair ∷ range_pair ∷ []) (b + 1)
    both_read =
        let end = many_stop next_pair text (pairs_fall text) (b + 1) missing_byte (no_pair_ahead text (b + 1) xs s after_range) in
        many_step next_pair text (pairs_fall text) at next uri_pair first_read ∙ ap (push uri_pair) (many_step next_pair text (pairs_fall text) next (b + 1) range_pair second_read ∙ ap (push range_pair) end)

    is_range : spells text (span next (next + 9)) (bytes "BYTERANGE") ≡ true
    unfolding spells tagged begins
    is_range = spells_ahead text next (bytes "BYTERANGE") (bytes "BYTERANGE") _ h1

    is_no_uri : spells text (span next (next + 9)) (bytes "URI") ≡ false
    unfolding spells tagged begins
    is_no_uri = spells_ahead text next (bytes "URI") (bytes "BYTERANGE") _ h1

    -- the value, where it stands, is the byte range that its bytes are on their own
    range_read : (r : ByteRange) (m k : ℕ) → byte_range_val (z ∷ rng) 0 ≡ ok r m → begun (byte_range_val text a) k ≡ ok (some r) k
    range_read r m k e =
        let d = on text (next + 9) (bytes "=") _ (on text next (bytes "BYTERANGE") _ h1) in
        let v = shows text a (z ∷ rng) _ (on text (next + 9 + 1) (bytes "\"") _ d) in
        begun_alone text (next + 9 + 1) a b (b + 1) (quoted_ahead text (next + 9 + 1) z rng _ er d) k ∙ rw (v, e)

    pub map_range_ahead : (r : ByteRange) (m : ℕ) → byte_range_val (z ∷ rng) 0 ≡ ok r m
        → (let e = range_to at (y ∷ val) (z ∷ rng) in extmap text at ≡ ok (ext_map (span (uri_from at) (uri_to at (y ∷ val))) (some r) (span at (e + 1))) (e + 1))
    unfolding inserted
    map_range_ahead r m e =
        let first = bytes "," ++ rest in
        map_by_attrs text at (some (in_quotes (span (uri_from at) to))) (some (in_quotes (span a b))) (b + 1)
        (rw (both_read, is_uri first h, is_no_uri)) (rw (both_read, is_no_range first h, is_range)) (rw both_read)
        ∙ rw (range_read r m (b + 1) e)

-- the premises can be met
map_back : extmap (bytes "URI=\"m\",BYTERANGE=\"9\"\n") 0 ≡ ok (ext_map (span 5 6) (some (range 9 none)) (span 0 21)) 21
unfolding Every byte_range_val number parsed is_digit decimal run_end run tagged begins
map_back = map_range_ahead (bytes "URI=\"m\",BYTERANGE=\"9\"\n") 0 109 [] (refl, tt) 57 [] (bytes "\n") (refl, tt) refl refl (range 9 none) 1 refl
