-- What is held under some names, with one pair more: it changes under the pair's own name, and so it is laid again. Assumes nothing.
use Prim.Native.Nat.{ℕ, ◌+◌, ◌-◌, ◌*◌, ◌≤◌, ◌<◌}
use mathlib.Core.Path.{◌≡◌, refl, sym, ◌∙◌, ap}
use mathlib.Core.Bool.{Bool, true, false, cond}
use mathlib.Core.List.{List, [], ◌∷◌, ◌++◌, map, append_assoc}
use mathlib.Core.Option.{Option, some}
use native.Mathlib.Omega.{arith}
use lib.ListN.{length, replicate, length-append, length-replicate}
use lib.Seq.{sets, sets-eq, take-append_seam, drop-append-add, drop-append_seam}
use Rattle.text.specs.Nom.{Span}
use Rattle.text.specs.Util.{spells}
use Rattle.attributes.specs.Pairs.{QuotedOrUnquoted, Pair, pair}
use Rattle.attributes.specs.Held.{attr_words, words_of, laid}
use Rattle.attributes.specs.Inside.Insert.{stored, inserted_from}
use Rattle.attributes.proofs.Laid.{three, room_or_not, laid_more, laid_less, stored_there, stored_not}

-- words in the place of as many
sets_over : (front old new rest : List ℕ) → length old ≡ length new → sets (front ++ (old ++ rest)) (length front) new ≡ front ++ (new ++ rest)
sets_over front old new rest e =
    let l = old ++ rest in
    let room : length front + length new ≤ length (front ++ l) = omega (arith, length-append front l, length-append old rest) in
    sets-eq new (front ++ l) (length front) room
    ∙ rw (take-append_seam front l, drop-append-add front l (length new), ← e, drop-append_seam old rest, append_assoc)

module _ (text : List ℕ) (left : Span) (right : QuotedOrUnquoted) where
  abbrev p : Pair
  p = pair left right

  abbrev value : List ℕ
  value = words_of (some right)

  -- ---- name by name
  module _ (n : ℕ) (ws : List (List ℕ)) (held : List ℕ) where
    pub inserted_out : ws ≡ [] → inserted_from text p n ws held ≡ held
    unfolding inserted_from
    inserted_out q = rw q

    module _ (w : List ℕ) (rest : List (List ℕ)) (q : ws ≡ w ∷ rest) where
      pub inserted_here : spells text left w ≡ true → inserted_from text p n ws held ≡ inserted_from text p (n + 1) rest (stored held n (words_of (some right)))
      unfolding inserted_from
      inserted_here e = rw (q, e)

      pub inserted_on : spells text left w ≡ false → inserted_from text p n ws held ≡ inserted_from text p (n + 1) rest held
      unfolding inserted_from
      inserted_on e = rw (q, e)

  -- ---- where there is no room, nothing is stored
  inserted_not : (n : ℕ) (ws : List (List ℕ)) (held : List ℕ) → length held < n * attr_words + attr_words → inserted_from text p n ws held ≡ held
  unfolding inserted_from
  inserted_not n [] held h = refl
  inserted_not n (w ∷ ws) held h = rw (same (spells text left w)) (inserted_not (n + 1) ws held (omega arith))
    where
      same : (b : Bool) → cond b (stored held n value) held ≡ held
      same true = stored_not held n h value
      same false = refl

  -- ---- what is held under each name, behind n others
  module _ (front : List ℕ) (n : ℕ) (e : length front ≡ n * attr_words) (v : Option QuotedOrUnquoted) (rest : List ℕ) where
    abbrev old : List ℕ
    old = front ++ (words_of v ++ rest)

    one_stored : (b : Bool) → cond b (stored old n value) old ≡ (front ++ words_of (cond b (some right) v)) ++ rest
    one_stored true =
        let room : n * attr_words + attr_words ≤ length old = omega (arith, length-append front (words_of v ++ rest), length-append (words_of v) rest, three v) in
        stored_there old n room value
        ∙ rw (← e) (sets_over front (words_of v) value rest (three v ∙ sym (three (some right))) ∙ sym (append_assoc front value rest))
    one_stored false = sym (append_assoc front (words_of v) rest)

  abbrev with : (List ℕ → Option QuotedOrUnquoted) → List ℕ → Option QuotedOrUnquoted
  with f name = cond (spells text left name) (some right) (f name)

  inserted_behind : (front : List ℕ) (n room : ℕ) (names : List (List ℕ)) (f : List ℕ → Option QuotedOrUnquoted) → length front ≡ n * attr_words
      → inserted_from text p n names (front ++ laid room (map f names)) ≡ front ++ laid room (map (with f) names)
  unfolding inserted_from
  inserted_behind front n room [] f e = refl
  inserted_behind front n room (w ∷ ws) f e =
      let left-room = room - attr_words in
      let words = words_of (with f w) in
      let held = front ++ laid room (f w ∷ map f ws) in
      let behind = laid left-room (map f ws) in
      room_or_not room
      (λ h. let here : cond (spells text left w) (stored held n value) held ≡ (front ++ words) ++ behind =
      rw (laid_more room (f w) (map f ws) h) (one_stored front n e (f w) behind (spells text left w)) in
      rw here (inserted_behind (front ++ words) (n + 1) left-room ws f (omega (arith, length-append front words, three (with f w))))
      ∙ append_assoc front words (laid left-room (map (with f) ws))
      ∙ ap (λ (l : List ℕ). front ++ l) (sym (laid_more room (with f w) (map (with f) ws) h)))
      (λ h. rw (laid_less room (f w) (map f ws) h, laid_less room (with f w) (map (with f) ws) h)
      (inserted_not n (w ∷ ws) (front ++ replicate room 0) (omega (arith, length-append front (replicate room 0), length-replicate {A = ℕ} room 0))))

  pub inserted_laid : (room : ℕ) (names : List (List ℕ)) (f : List ℕ → Option QuotedOrUnquoted)
      → inserted_from text p 0 names (laid room (map f names)) ≡ laid room (map (λ name. cond (spells text left name) (some right) (f name)) names)
  inserted_laid room names f = inserted_behind [] 0 room names f refl
