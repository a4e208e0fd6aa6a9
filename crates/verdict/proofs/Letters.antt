-- Which rows can be there at all, by one byte of theirs: a row is not there where the text has another byte at the same place, so only those with that byte
-- need be tried. Assumes nothing.
use Prim.Native.Nat.{ℕ, ◌+◌}
use mathlib.Core.Path.{◌≡◌, refl, sym, ◌∙◌, ap}
use mathlib.Core.Bool.{Bool, true, false, cond, ◌||◌, false≢true}
use mathlib.Core.List.{List, [], ◌∷◌, ◌++◌}
use lib.Dec.{eqb}
use lib.ListN.{get_or}
use borrow.Author.Tests.{ltb-true, eqb-true, eqb-false, ne_eqb}
use Rattle.text.specs.Why.{other_text}
use Rattle.text.specs.Nom.{Res, fail, ok, is_one_of, or_else, or_none, opt, alt}
use Rattle.text.proofs.Laws.{tagged_other}
use Rattle.text.proofs.Chain.{or_assoc}
use Rattle.verdict.specs.Verdict.{Row, literal, reads, first_of, master_names, playlist_names, segment_names, master_kind, playlist_kind, segment_kind, media_kind}
use Rattle.verdict.specs.Inside.Letters.{rows, having, or_row, or_first, found}
use Rattle.verdict.proofs.Rows.{longer, hold_all, holds_first, hold_rest, row_not}

-- ---- a byte that no row has
-- x is none of these, the last one first: what is known in the `_` of a `match`
abbrev pub Apart : ℕ → List ℕ → Type 0
Apart x [] = Unit {0}
Apart x (y ∷ ys) = Apart x ys × (x ≡ y → ⊥)

apart : (x : ℕ) (ys : List ℕ) → Apart x ys → (z : ℕ) → is_one_of ys z ≡ true → eqb x z ≡ false
apart x [] h z e = absurd (false≢true e)
apart x (y ∷ ys) h z e = go (eqb y z) refl (apart x ys h.0 z) e
  where
    go : (b : Bool) → eqb y z ≡ b → (is_one_of ys z ≡ true → eqb x z ≡ false) → (b || is_one_of ys z) ≡ true → eqb x z ≡ false
    go true q ih e = ne_eqb x z (λ p. h.1 (p ∙ sym (eqb-true y z q)))
    go false q ih e = ih e

abbrev pub among : ℕ → List ℕ → Row → Bool
among k ys r = is_one_of ys (get_or (literal r) k 0)

none_having : (k x : ℕ) (ys : List ℕ) → Apart x ys → (rs : List Row) → hold_all (among k ys) rs ≡ true → having k x rs ≡ []
none_having k x ys h [] e = refl
none_having k x ys h (r ∷ rs) e = rw (apart x ys h _ (holds_first (among k ys) r rs e)) (none_having k x ys h rs (hold_rest (among k ys) r rs e))

-- ---- the reason for none is dropped, so one will do
abbrev plain : Res Bool → Res Bool
plain r = or_else r (fail other_text)

none_plain : (r : Res Bool) (at : ℕ) → or_none (plain r) at ≡ or_none r at
none_plain (fail why) at = refl
none_plain (ok k n) at = refl

module _ (text : List ℕ) (at : ℕ) where
  abbrev pub tried : List Row → Res Bool
  tried [] = fail other_text
  tried (r ∷ rs) = or_else (reads r text at) (tried rs)

  tried_append : (rs qs : List Row) → tried (rs ++ qs) ≡ or_else (first_of rs text at) (tried qs)
  tried_append [] qs = refl
  tried_append (r ∷ []) qs = refl
  tried_append (r ∷ q ∷ rs) qs = ap (or_else (reads r text at)) (tried_append (q ∷ rs) qs) ∙ or_assoc (reads r text at) (first_of (q ∷ rs) text at) (tried qs)

  tried_or : (r : Res Bool) (rs : List Row) → plain (or_first r rs text at) ≡ or_else r (tried rs)
  unfolding or_row
  tried_or r [] = refl
  tried_or r (q ∷ qs) = tried_or (or_else r (reads q text at)) qs ∙ sym (or_assoc r (reads q text at) (tried qs))

  -- all rows are the rule
  joined : (rs qs : List Row) (q : Res Bool) → tried qs ≡ plain q → tried (rs ++ qs) ≡ plain (or_else (first_of rs text at) q)
  joined rs qs q e = tried_append rs qs ∙ ap (or_else (first_of rs text at)) e ∙ or_assoc (first_of rs text at) q (fail other_text)

  all_tried : tried rows ≡ plain (alt master_kind media_kind text at)
  unfolding master_kind playlist_kind segment_kind media_kind
  all_tried = joined master_names (playlist_names ++ segment_names) (media_kind text at) (joined playlist_names segment_names (segment_kind text at) (tried_append segment_names []))

  -- ---- by the byte at place k
  pub by_byte : (k x : ℕ) → get_or text (at + k) 0 ≡ x → (rs : List Row) → hold_all (longer k) rs ≡ true → tried (having k x rs) ≡ tried rs
  by_byte k x seen [] l = refl
  by_byte k x seen (r ∷ rs) l = go (eqb x (get_or (literal r) k 0)) refl (by_byte k x seen rs (hold_rest (longer k) r rs l))
    where
      go : (b : Bool) → eqb x (get_or (literal r) k 0) ≡ b → tried (having k x rs) ≡ tried rs → tried (cond b (r ∷ having k x rs) (having k x rs)) ≡ or_else (reads r text at) (tried rs)
      go true e ih = ap (or_else (reads r text at)) ih
      go false e ih = rw (row_not text at r (tagged_other (literal r) text at k (ltb-true k _ (holds_first (longer k) r rs l)) (λ q. eqb-false x _ e (sym seen ∙ q)))) ih

  -- where the rows rs are enough, those of them with the text's byte are
  module _ (k : ℕ) (rs : List Row) (l : hold_all (longer k) rs ≡ true) (enough : tried rs ≡ tried rows) (x : ℕ) (seen : get_or text (at + k) 0 ≡ x) where
    pub told_having : (r : Res Bool) → r ≡ found (having k x rs) text at → or_none r at ≡ opt (alt master_kind media_kind) text at
    told_having r e =
        let same = ap plain e ∙ tried_or (fail other_text) (having k x rs) ∙ by_byte k x seen rs l ∙ enough ∙ all_tried in
        sym (none_plain r at) ∙ ap (λ (q : Res Bool). or_none q at) same ∙ none_plain (alt master_kind media_kind text at) at

    -- and if none of them has it, none is there
    pub told_none : (ys : List ℕ) → Apart x ys → hold_all (among k ys) rs ≡ true → or_none (fail other_text) at ≡ opt (alt master_kind media_kind) text at
    told_none ys h e = told_having (fail other_text) (rw (none_having k x ys h rs e))
