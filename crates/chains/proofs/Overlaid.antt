-- Values laid over what is held, each under its own number; and a list that was read, by its first pair, or by what is kept of a list that leads to it. Assumes nothing.
use Prim.Native.Nat.{ℕ, zero, suc, ◌+◌, ◌-◌, ◌*◌, ◌/◌, ◌≤◌, ◌<◌}
use mathlib.Core.Path.{◌≡◌, refl, sym, ◌∙◌, ap}
use mathlib.Core.Bool.{Bool, true, false, cond}
use mathlib.Core.List.{List, [], ◌∷◌, ◌++◌, map, append_assoc, map-map, map_congr_left}
use mathlib.Core.Option.{Option, none, some}
use native.Mathlib.Nat.{add-zero}
use native.Mathlib.Numerals.{add-one}
use native.Mathlib.Omega.{arith}
use lib.ListN.{length, get_or, get_or-map, replicate, length-append, length-replicate}
use lib.Seq.{sets-eq, take-append_seam, drop-append-add, drop-append_seam}
use Rattle.text.specs.Why.{Why}
use Rattle.text.specs.Nom.{fail, ok}
use Rattle.text.specs.Many.{many0, items, stop}
use Rattle.text.specs.Util.{spells}
use Rattle.text.proofs.Many.{many_stop, items_step}
use Rattle.attributes.specs.Pairs.{QuotedOrUnquoted, Pair, pair, next_pair, inserted}
use Rattle.attributes.specs.Held.{attr_words, words_of, laid, attr_at}
use Rattle.attributes.specs.Inside.Insert.{stored, inserted_from}
use Rattle.attributes.proofs.Laid.{three, room_or_not, laid_more, laid_less, laid_length, laid_at, stored_there, stored_not, stored_length}
use Rattle.attributes.proofs.Inserted.{inserted_laid}
use Rattle.attributes.proofs.Walk.{pairs_fall, ends_stop, ends_step}
use Rattle.tables.specs.Table.{listed}
use Rattle.chains.specs.Inside.Kept.{has, later, Leads, overlaid, ListFrom}

-- ---- of two values the first that there is
abbrev pub either : Option QuotedOrUnquoted → Option QuotedOrUnquoted → Option QuotedOrUnquoted
either none u = u
either (some v) u = some v

-- what pairs put in the place of u is what they have by themselves, and else u
pub inserted_either : (text name : List ℕ) (u : Option QuotedOrUnquoted) (ps : List Pair) → inserted text name u ps ≡ either (inserted text name none ps) u
unfolding inserted
inserted_either text name u [] = refl
inserted_either text name u (pair left right ∷ ps) =
    let b = spells text left name in
    inserted_either text name (cond b (some right) u) ps
    ∙ go (inserted text name none ps) b
    ∙ ap (λ (x : Option QuotedOrUnquoted). either x u) (sym (inserted_either text name (cond b (some right) none) ps))
  where
    go : (x : Option QuotedOrUnquoted) (b : Bool) → either x (cond b (some right) u) ≡ either (either x (cond b (some right) none)) u
    go (some v) b = refl
    go none true = refl
    go none false = refl

-- ---- one value laid over what is held
abbrev over : List ℕ → ℕ → Option QuotedOrUnquoted → List ℕ
over held n none = held
over held n (some v) = stored held n (words_of (some v))

over_length : (held : List ℕ) (n : ℕ) (v : Option QuotedOrUnquoted) → length (over held n v) ≡ length held
over_length held n none = refl
over_length held n (some v) = stored_length held n (words_of (some v))

over_not : (held : List ℕ) (n : ℕ) (v : Option QuotedOrUnquoted) → length held < n * attr_words + attr_words → over held n v ≡ held
over_not held n none h = refl
over_not held n (some v) h = stored_not held n h (words_of (some v))

-- behind n others
over_behind : (front : List ℕ) (n : ℕ) (v u : Option QuotedOrUnquoted) (rest : List ℕ) → length front ≡ n * attr_words
    → over (front ++ (words_of u ++ rest)) n v ≡ (front ++ words_of (either v u)) ++ rest
over_behind front n none u rest e = sym (append_assoc front (words_of u) rest)
over_behind front n (some v) u rest e =
    let new = words_of (some v) in
    let old = words_of u ++ rest in
    let as_long : length new ≡ length (words_of u) = three (some v) ∙ sym (three u) in
    let room : n * attr_words + attr_words ≤ length (front ++ old) = omega (arith, length-append front old, length-append (words_of u) rest, three u) in
    let fit : length front + length new ≤ length (front ++ old) = omega (arith, three (some v)) in
    stored_there (front ++ old) n room new
    ∙ rw (← e) (sets-eq new (front ++ old) (length front) fit
    ∙ rw (take-append_seam front old, drop-append-add front old (length new), as_long, drop-append_seam (words_of u) rest))

-- ---- values, one after the other
overlaid_one : (v : Option QuotedOrUnquoted) (vs : List (Option QuotedOrUnquoted)) (n : ℕ) (held : List ℕ) → overlaid (v ∷ vs) n held ≡ overlaid vs (n + 1) (over held n v)
unfolding overlaid
overlaid_one none vs n held = refl
overlaid_one (some v) vs n held = refl

-- where there is no room, nothing changes
overlaid_not : (vs : List (Option QuotedOrUnquoted)) (n : ℕ) (held : List ℕ) → length held < n * attr_words + attr_words → overlaid vs n held ≡ held
unfolding overlaid
overlaid_not [] n held h = refl
overlaid_not (v ∷ vs) n held h = overlaid_one v vs n held ∙ rw (over_not held n v h) (overlaid_not vs (n + 1) held (omega arith))

module _ (g f : List ℕ → Option QuotedOrUnquoted) where
  abbrev both : List ℕ → Option QuotedOrUnquoted
  both w = either (g w) (f w)

  overlaid_behind : (front : List ℕ) (n room : ℕ) (names : List (List ℕ)) → length front ≡ n * attr_words
      → overlaid (map g names) n (front ++ laid room (map f names)) ≡ front ++ laid room (map both names)
  unfolding overlaid
  overlaid_behind front n room [] e = refl
  overlaid_behind front n room (w ∷ ws) e =
      let left = room - attr_words in
      let words = words_of (both w) in
      let held = front ++ laid room (f w ∷ map f ws) in
      let behind = laid left (map f ws) in
      room_or_not room
      (λ h. let here : over held n (g w) ≡ (front ++ words) ++ behind = rw (laid_more room (f w) (map f ws) h) (over_behind front n (g w) (f w) behind e) in
      overlaid_one (g w) (map g ws) n held
      ∙ rw here (overlaid_behind (front ++ words) (n + 1) left ws (omega (arith, length-append front words, three (both w))))
      ∙ append_assoc front words (laid left (map both ws))
      ∙ ap (λ (l : List ℕ). front ++ l) (sym (laid_more room (both w) (map both ws) h)))
      (λ h. rw (laid_less room (f w) (map f ws) h, laid_less room (both w) (map both ws) h)
      (overlaid_not (g w ∷ map g ws) n (front ++ replicate room 0) (omega (arith, length-append front (replicate room 0), length-replicate {A = ℕ} room 0))))

-- under each name the new value, and else what was held there
pub overlaid_laid : (room : ℕ) (names : List (List ℕ)) (g f : List ℕ → Option QuotedOrUnquoted)
    → overlaid (map g names) 0 (laid room (map f names)) ≡ laid room (map (λ w. either (g w) (f w)) names)
overlaid_laid room names g f = overlaid_behind g f [] 0 room names refl

one_on : (at : ℕ → Option QuotedOrUnquoted) (n k : ℕ) → at (suc n + k) ≡ at (n + suc k)
one_on at n k = let e : suc n + k ≡ n + suc k = omega arith in ap at e

-- values by their numbers, as many as there is room for
overlaid_listed : (at : ℕ → Option QuotedOrUnquoted) (m n : ℕ) (vs : List (Option QuotedOrUnquoted)) (held : List ℕ) → length held < (n + m) * attr_words + attr_words
    → ((k : ℕ) → k < m → at (n + k) ≡ get_or vs k none) → overlaid (listed at n m) n held ≡ overlaid vs n held
unfolding overlaid listed
overlaid_listed at zero n vs held h same = sym (overlaid_not vs n held (omega arith))
overlaid_listed at (suc m) n [] held h same =
    let first : at n ≡ none = ap at (sym (add-zero n)) ∙ same 0 (omega arith) in
    rw (first, add-one n) (overlaid_listed at m (suc n) [] held (omega arith) (λ k l. one_on at n k ∙ same (suc k) (omega arith)))
overlaid_listed at (suc m) n (v ∷ vs) held h same =
    let first : at n ≡ v = ap at (sym (add-zero n)) ∙ same 0 (omega arith) in
    let rest = overlaid_listed at m (suc n) vs (over held n v) (omega (arith, over_length held n v)) (λ k l. one_on at n k ∙ same (suc k) (omega arith)) in
    overlaid_one (at n) (listed at (suc n) m) n held ∙ rw (first, add-one n) rest ∙ sym (rw (add-one n) at (overlaid_one v vs n held))

-- ---- a list, pair by pair
module _ (text : List ℕ) (names : List (List ℕ)) where
  -- no pair is left
  pub list_none : (at : ℕ) (why : Why) (held : List ℕ) → next_pair text at ≡ fail why → ListFrom text names at held held at
  unfolding inserted
  list_none at why held q = record { ends = sym (ends_stop text at why q); holds = λ f e. rw (many_stop next_pair text (pairs_fall text) at why q) e }

  -- one pair, then the others
  pub list_step : (at n end : ℕ) (p : Pair) (held₀ held₁ held : List ℕ) → next_pair text at ≡ ok p n → held₁ ≡ inserted_from text p 0 names held₀
      → ListFrom text names n held₁ held end → ListFrom text names at held₀ held end
  unfolding inserted
  list_step at n end (pair left right) held₀ held₁ held q h l = record { ends = l.ends ∙ sym (ends_step text at n (pair left right) q); holds = all }
    where
      all : (f : List ℕ → Option QuotedOrUnquoted) → held₀ ≡ laid (length held₀) (map f names)
          → held ≡ laid (length held₀) (map (λ name. inserted text name (f name) (items (many0 next_pair text at))) names)
      all f e =
          let room = length held₀ in
          let g : List ℕ → Option QuotedOrUnquoted = λ name. cond (spells text left name) (some right) (f name) in
          let first : held₁ ≡ laid room (map g names) = h ∙ ap (inserted_from text (pair left right) 0 names) e ∙ inserted_laid text left right room names f in
          let long : length held₁ ≡ room = ap length first ∙ laid_length room (map g names) in
          rw (items_step next_pair text (pairs_fall text) at n (pair left right) q) (rw long at (l.holds g (rw long first)))

  -- a list that another leads to: what is kept of that one, as far as it stands behind this one's beginning, in the place of what is held
  module _ (from b : ℕ) (kept held₀ : List ℕ) (lead : Leads text from b) (keeps : kept ≡ laid (length kept) (map (has text from) names)) (long : length kept ≡ length held₀) where
    abbrev new : List ℕ → Option QuotedOrUnquoted
    new name = later b (has text from name)

    new_at : (k : ℕ) → k * attr_words + attr_words ≤ length kept → later b (attr_at kept k) ≡ get_or (map new names) k none
    new_at k h =
        let room = length kept in
        let vs = map (has text from) names in
        let back : attr_at kept k ≡ get_or vs k none = ap (λ (l : List ℕ). attr_at l k) keeps ∙ laid_at room k vs h in
        ap (later b) back ∙ sym (get_or-map (later b) vs k none) ∙ rw map-map

    met : (f : List ℕ → Option QuotedOrUnquoted) → held₀ ≡ laid (length held₀) (map f names)
        → overlaid (listed (λ n. later b (attr_at kept n)) 0 (length held₀ / attr_words)) 0 held₀
        ≡ laid (length held₀) (map (λ name. inserted text name (f name) (items (many0 next_pair text b))) names)
    met f e =
        let room = length held₀ in
        let ps = items (many0 next_pair text b) in
        let same : (name : List ℕ) → either (new name) (f name) ≡ inserted text name (f name) ps =
        λ name. ap (λ (x : Option QuotedOrUnquoted). either x (f name)) (sym (lead.tails name)) ∙ sym (inserted_either text name (f name) ps) in
        overlaid_listed (λ n. later b (attr_at kept n)) (room / attr_words) 0 (map new names) held₀ (omega arith)
        (λ k l. let z : 0 + k ≡ k = omega arith in rw z (new_at k (omega arith)))
        ∙ ap (overlaid (map new names) 0) e
        ∙ overlaid_laid room names new f
        ∙ ap (laid room) (map_congr_left {l = names} (λ name m. same name))

  pub list_met : (from b end : ℕ) (kept held₀ held : List ℕ) → Leads text from b → end ≡ stop (many0 next_pair text b) → kept ≡ laid (length kept) (map (has text from) names)
      → length kept ≡ length held₀ → held ≡ overlaid (listed (λ n. later b (attr_at kept n)) 0 (length held₀ / attr_words)) 0 held₀ → ListFrom text names b held₀ held end
  list_met from b end kept held₀ held lead ends keeps long h = record { ends = ends; holds = λ f e. h ∙ met from b kept held₀ lead keeps long f e }

-- ---- one value after the other
module _ (n : ℕ) (held : List ℕ) where
  pub overlaid_next : (x : Option QuotedOrUnquoted) (vs : List (Option QuotedOrUnquoted)) → overlaid (x ∷ vs) n held ≡ overlaid vs (n + 1) (overlaid (x ∷ []) n held)
  unfolding overlaid
  overlaid_next none vs = refl
  overlaid_next (some v) vs = refl

  pub over_none : (x : Option QuotedOrUnquoted) → x ≡ none → held ≡ overlaid (x ∷ []) n held
  unfolding overlaid
  over_none x e = rw e

  pub over_some : (x : Option QuotedOrUnquoted) (v : QuotedOrUnquoted) → x ≡ some v → stored held n (words_of (some v)) ≡ overlaid (x ∷ []) n held
  unfolding overlaid
  over_some x v e = rw e

pub overlaid_end : (n : ℕ) (held : List ℕ) → overlaid [] n held ≡ held
unfolding overlaid
overlaid_end n held = refl

pub overlaid_length : (vs : List (Option QuotedOrUnquoted)) (n : ℕ) (held : List ℕ) → length (overlaid vs n held) ≡ length held
unfolding overlaid
overlaid_length [] n held = refl
overlaid_length (none ∷ vs) n held = overlaid_length vs (n + 1) held
overlaid_length (some v ∷ vs) n held = overlaid_length vs (n + 1) (stored held n (words_of (some v))) ∙ stored_length held n (words_of (some v))

pub inserted_length : (text : List ℕ) (p : Pair) (n : ℕ) (names : List (List ℕ)) (held : List ℕ) → length (inserted_from text p n names held) ≡ length held
unfolding inserted_from
inserted_length text p n [] held = refl
inserted_length text (pair left right) n (w ∷ ws) held =
    inserted_length text (pair left right) (n + 1) ws (cond (spells text left w) (stored held n (words_of (some right))) held) ∙ go (spells text left w)
  where
    go : (b : Bool) → length (cond b (stored held n (words_of (some right))) held) ≡ length held
    go true = stored_length held n (words_of (some right))
    go false = refl
