-- The rules of the attributes are local: with more text before, they do the same, further on. Each law is the rule written again, with the laws of text's
-- `Local`. Assumes nothing.
use Prim.Native.Nat.{ℕ, ◌+◌}
use mathlib.Core.Path.{◌≡◌, refl}
use mathlib.Core.Bool.{Bool, true, false, cond}
use mathlib.Core.List.{List, [], ◌∷◌, ◌++◌, map as map_list}
use mathlib.Core.Option.{Option, none, some}
use lib.ListN.{length}
use Rattle.text.specs.Why.{missing_byte, no_uri, uri_not_quoted, range_not_quoted}
use Rattle.text.specs.Nom.{Res, fail, ok, span, bytes, run_end, after_tag, alt, is_space}
use Rattle.text.specs.Util.{ByteRange, byte_range_val, spells}
use Rattle.text.proofs.Local.{Local, shift, still, mv_span, mv_opt, mv_range, run_moves, after_moves, spells_moves, done_moves, fail_moves, alt_moves, bind_moves, tag_local, is_not_local, peek_local, until_local, many_local, range_local}
use Rattle.attributes.specs.Pairs.{QuotedOrUnquoted, bare, in_quotes, Pair, pair, quoted, unquoted, key_value_pair, next_pair, key_value_pairs, inserted, get}
use Rattle.attributes.specs.ExtMap.{Map, ext_map, uri_of, begun, range_of, extmap}

-- ---- how values move by k places
abbrev pub mv_value : ℕ → QuotedOrUnquoted → QuotedOrUnquoted
mv_value k (bare s) = bare (mv_span k s)
mv_value k (in_quotes s) = in_quotes (mv_span k s)

abbrev pub mv_pair : ℕ → Pair → Pair
mv_pair k (pair left right) = pair (mv_span k left) (mv_value k right)

abbrev pub mv_map : ℕ → Map → Map
mv_map k (ext_map uri r list) = ext_map (mv_span k uri) (mv_opt mv_range k r) (mv_span k list)

-- ---- values and pairs
pub quoted_local : Local mv_value quoted
unfolding quoted
quoted_local pre xs n =
    bind_moves still mv_value _ _ _ _ _ (tag_local (bytes "\"") pre xs n) (λ _ n.
    bind_moves mv_span mv_value _ _ _ _ _ (is_not_local missing_byte (bytes "\"") pre xs n) (λ s n.
    bind_moves still mv_value _ _ _ _ _ (tag_local (bytes "\"") pre xs n) (λ _ n.
    done_moves mv_value _ (in_quotes s) n)))

pub unquoted_local : Local mv_value unquoted
unfolding unquoted
unquoted_local pre xs n = bind_moves mv_span mv_value _ _ _ _ _ (is_not_local missing_byte (bytes ",\r\n") pre xs n) (λ s n. done_moves mv_value _ (bare s) n)

value_local : Local mv_value (alt quoted unquoted)
value_local pre xs n = alt_moves mv_value _ _ _ _ _ (quoted_local pre xs n) (unquoted_local pre xs n)

pub key_value_pair_local : Local mv_pair key_value_pair
unfolding key_value_pair
key_value_pair_local pre xs n =
    bind_moves still mv_pair _ _ _ _ _ (peek_local (bytes "\r\n") pre xs n) (λ _ n.
    bind_moves mv_span mv_pair _ _ _ _ _ (until_local (bytes "=") pre xs n) (λ left n.
    bind_moves still mv_pair _ _ _ _ _ (tag_local (bytes "=") pre xs n) (λ _ n.
    bind_moves mv_value mv_pair _ _ _ _ _ (value_local pre xs n) (λ right n.
    rw (after_moves pre xs n (bytes ",")) (done_moves mv_pair _ (pair left right) (after_tag (bytes ",") xs n))))))

pub next_pair_local : Local mv_pair next_pair
unfolding next_pair
next_pair_local pre xs n = rw (run_moves pre xs n is_space) (key_value_pair_local pre xs (run_end is_space xs n))

-- ---- lists
pub key_value_pairs_local : Local (λ k. map_list (mv_pair k)) key_value_pairs
unfolding key_value_pairs
key_value_pairs_local = many_local mv_pair next_pair next_pair_local

begun_moves : (k n : ℕ) (r : Res ByteRange) → begun (shift mv_range k r) (k + n) ≡ shift (mv_opt mv_range) k (begun r n)
unfolding shift
begun_moves k n (fail why) = refl
begun_moves k n (ok r m) = refl

module _ (pre xs : List ℕ) where
  inserted_moves : (name : List ℕ) (ps : List Pair) (held : Option QuotedOrUnquoted)
      → inserted (pre ++ xs) name (mv_opt mv_value (length pre) held) (map_list (mv_pair (length pre)) ps) ≡ mv_opt mv_value (length pre) (inserted xs name held ps)
  unfolding inserted
  inserted_moves name [] held = refl
  inserted_moves name (pair left right ∷ ps) held = rw (spells_moves pre xs left name) (go (spells xs left name) (inserted_moves name ps))
    where
      go : (b : Bool) → ((h : Option QuotedOrUnquoted) → inserted (pre ++ xs) name (mv_opt mv_value (length pre) h) (map_list (mv_pair (length pre)) ps) ≡ mv_opt mv_value (length pre) (inserted xs name h ps))
          → inserted (pre ++ xs) name (cond b (some (mv_value (length pre) right)) (mv_opt mv_value (length pre) held)) (map_list (mv_pair (length pre)) ps)
          ≡ mv_opt mv_value (length pre) (inserted xs name (cond b (some right) held) ps)
      go true ih = ih (some right)
      go false ih = ih held

  pub get_moves : (name : List ℕ) (ps : List Pair) → get (pre ++ xs) name (map_list (mv_pair (length pre)) ps) ≡ mv_opt mv_value (length pre) (get xs name ps)
  get_moves name ps = inserted_moves name ps none

  -- ---- maps
  uri_moves : (v : Option QuotedOrUnquoted) (n : ℕ) → uri_of (mv_opt mv_value (length pre) v) (pre ++ xs) (length pre + n) ≡ shift mv_span (length pre) (uri_of v xs n)
  uri_moves none n = fail_moves mv_span (length pre) no_uri
  uri_moves (some (bare s)) n = fail_moves mv_span (length pre) uri_not_quoted
  uri_moves (some (in_quotes s)) n = done_moves mv_span (length pre) s n

  range_moves : (v : Option QuotedOrUnquoted) (n : ℕ) → range_of (mv_opt mv_value (length pre) v) (pre ++ xs) (length pre + n) ≡ shift (mv_opt mv_range) (length pre) (range_of v xs n)
  range_moves none n = done_moves (mv_opt mv_range) (length pre) none n
  range_moves (some (bare s)) n = fail_moves (mv_opt mv_range) (length pre) range_not_quoted
  range_moves (some (in_quotes (span s e))) n = rw (range_local pre xs s) (begun_moves (length pre) n (byte_range_val xs s))

pub extmap_local : Local mv_map extmap
unfolding extmap
extmap_local pre xs n =
    bind_moves (λ k. map_list (mv_pair k)) mv_map _ _ _ _ _ (key_value_pairs_local pre xs n) (λ attrs to.
    rw (get_moves pre xs (bytes "URI") attrs, get_moves pre xs (bytes "BYTERANGE") attrs)
    (bind_moves mv_span mv_map _ _ _ _ _ (uri_moves pre xs (get xs (bytes "URI") attrs) to) (λ uri m.
    bind_moves (mv_opt mv_range) mv_map _ _ _ _ _ (range_moves pre xs (get xs (bytes "BYTERANGE") attrs) m) (λ r m.
    done_moves mv_map _ (ext_map uri r (span n to)) m))))
