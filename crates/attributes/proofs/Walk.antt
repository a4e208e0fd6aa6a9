-- A list is walked pair by pair: what is left, done from here, is the whole. Assumes nothing.
use Prim.Native.Nat.{ℕ, zero, suc, ◌+◌, ◌*◌, ◌≤◌, ◌<◌}
use mathlib.Core.Path.{◌≡◌, refl, ◌∙◌, ap}
use mathlib.Core.Bool.{Bool, true, false, cond}
use mathlib.Core.List.{List, [], ◌∷◌, map}
use mathlib.Core.Option.{Option, none, some}
use native.Mathlib.Omega.{arith}
use lib.ListN.{length, get_or, replicate}
use Rattle.text.specs.Why.{Why}
use Rattle.text.specs.Nom.{Res, fail, ok, Span, bytes, bind}
use Rattle.text.specs.Many.{Many, many, many0, items, stop, collected}
use Rattle.text.specs.Util.{spells}
use Rattle.text.proofs.Many.{Falls, many_stop, items_step, stop_step}
use Rattle.text.proofs.Takes.{takes_falls}
use Rattle.attributes.specs.Pairs.{QuotedOrUnquoted, Pair, pair, next_pair, key_value_pairs, inserted, get, words, named, besides}
use Rattle.attributes.specs.Held.{attr_words, laid, attr_at, LastOfEach}
use Rattle.attributes.specs.ExtMap.{Map, mapped, extmap}
use Rattle.attributes.specs.Inside.Insert.{inserted_from}
use Rattle.attributes.proofs.Takes.{takes_next_pair}
use Rattle.attributes.proofs.Laid.{laid_nothing, laid_at}
use Rattle.attributes.proofs.Inserted.{inserted_laid}

module _ (text : List ℕ) where
  -- each pair brings the walk nearer to the text's end
  pub pairs_fall : Falls next_pair text
  pairs_fall = takes_falls 1 next_pair takes_next_pair text

  -- ---- where it ends
  pub ends_stop : (at : ℕ) (why : Why) → next_pair text at ≡ fail why → stop (many0 next_pair text at) ≡ at
  ends_stop at why f = ap stop (many_stop next_pair text pairs_fall at why f)

  pub ends_step : (at n : ℕ) (p : Pair) → next_pair text at ≡ ok p n → stop (many0 next_pair text at) ≡ stop (many0 next_pair text n)
  ends_step = stop_step next_pair text pairs_fall

  -- ---- names, and what is held under each
  module _ (names : List (List ℕ)) where
    -- what is held once these pairs are inserted too
    unfoldable pub walked : List Pair → List ℕ → List ℕ
    walked [] held = held
    walked (p ∷ ps) held = walked ps (inserted_from text p 0 names held)

    -- what the whole walk gives, where so much is held already
    abbrev pub held_from : ℕ → List ℕ → List ℕ
    held_from at held = walked (items (many0 next_pair text at)) held

    pub held_stop : (at : ℕ) (held : List ℕ) (why : Why) → next_pair text at ≡ fail why → held_from at held ≡ held
    unfolding walked
    held_stop at held why f = rw (many_stop next_pair text pairs_fall at why f)

    pub held_step : (at n : ℕ) (p : Pair) (held after : List ℕ) → next_pair text at ≡ ok p n → after ≡ inserted_from text p 0 names held
        → held_from at held ≡ held_from n after
    unfolding walked
    held_step at n p held after f q = rw (q, items_step next_pair text pairs_fall at n p f)

    walked_laid : (room : ℕ) (ps : List Pair) (f : List ℕ → Option QuotedOrUnquoted)
        → walked ps (laid room (map f names)) ≡ laid room (map (λ name. inserted text name (f name) ps) names)
    unfolding walked inserted
    walked_laid room [] f = refl
    walked_laid room (pair left right ∷ ps) f =
        ap (walked ps) (inserted_laid text left right room names f) ∙ walked_laid room ps (λ name. cond (spells text left name) (some right) (f name))

    -- where nothing is held at first, it is what the list has under each name
    pub held_all : (at room : ℕ) → held_from at (replicate room 0) ≡ laid room (map (λ name. get text name (items (many0 next_pair text at))) names)
    held_all at room = rw (← laid_nothing room names) (walked_laid room (items (many0 next_pair text at)) (λ _. none))

  -- ---- a name besides these
  module _ (names : List (List ℕ)) where
    abbrev pub others : ℕ → Bool
    others at = besides text names (items (many0 next_pair text at))

    pub others_stop : (at : ℕ) (why : Why) → next_pair text at ≡ fail why → others at ≡ false
    unfolding besides
    others_stop at why f = rw (many_stop next_pair text pairs_fall at why f)

    pub others_found : (at n : ℕ) (left : Span) (right : QuotedOrUnquoted) → next_pair text at ≡ ok (pair left right) n → named text left names ≡ false → others at ≡ true
    unfolding besides
    others_found at n left right f e = rw (items_step next_pair text pairs_fall at n (pair left right) f, e)

    pub others_step : (at n : ℕ) (left : Span) (right : QuotedOrUnquoted) → next_pair text at ≡ ok (pair left right) n → named text left names ≡ true → others at ≡ others n
    unfolding besides
    others_step at n left right f e = rw (items_step next_pair text pairs_fall at n (pair left right) f, e)

-- ---- attribute number k is what the list has under name number k
at_name : (f : List ℕ → Option QuotedOrUnquoted) (names : List (List ℕ)) (k : ℕ) → k < length names → get_or (map f names) k none ≡ f (get_or names k [])
at_name f [] k h = absurd (omega arith)
at_name f (w ∷ ws) zero h = refl
at_name f (w ∷ ws) (suc k) h = at_name f ws k (omega arith)

module _ (text : List ℕ) (at : ℕ) where
  abbrev pairs : List Pair
  pairs = items (many0 next_pair text at)

  pub attr_held : {names sizes held₀ held : List ℕ} {end : ℕ} → LastOfEach text at names sizes held₀ held end
      → (k : ℕ) → k < length (words names sizes) → k * attr_words + attr_words ≤ length held₀
      → attr_at held k ≡ get text (get_or (words names sizes) k []) (items (many0 next_pair text at))
  attr_held {names} {sizes} {held₀} e k l h = rw e.holds (laid_at (length held₀) k _ h ∙ at_name (λ name. get text name pairs) (words names sizes) k l)

  -- ---- a MAP, by what the list has under its two names
  pub map_by_attrs : (uri range : Option QuotedOrUnquoted) (end : ℕ) →
      let m = many0 next_pair text at in
      uri ≡ get text (bytes "URI") (items m) → range ≡ get text (bytes "BYTERANGE") (items m) → end ≡ stop m → extmap text at ≡ mapped text at uri range end
  unfolding extmap key_value_pairs
  map_by_attrs uri range end u r e = rw (u, r, e) (go (many0 next_pair text at))
    where
      parts : List Pair → ℕ → Res Map
      parts ps n = mapped text at (get text (bytes "URI") ps) (get text (bytes "BYTERANGE") ps) n

      go : (m : Many Pair) → bind (collected m) parts ≡ parts (items m) (stop m)
      go (many ps n) = refl

  -- the names in the code's order
  pub map_by_held : {held₀ held : List ℕ} {end : ℕ} (uri range : Option QuotedOrUnquoted)
      → LastOfEach text at (bytes "URIBYTERANGE") (3 ∷ 9 ∷ []) held₀ held end → 2 * attr_words ≤ length held₀
      → uri ≡ attr_at held 0 → range ≡ attr_at held 1 → extmap text at ≡ mapped text at uri range end
  unfolding words
  map_by_held uri range e h u r =
      map_by_attrs uri range _ (u ∙ attr_held e 0 (omega arith) (omega arith)) (r ∙ attr_held e 1 (omega arith) (omega arith)) e.ends
