-- Laws of the known tags go by induction on their rows. Here is what each row brings, ONCE: a new tag adds a line to `head_facts` or `clip_facts`. What its
-- fixed text brings is computed for all rows at once (`hold_all`, by `refl`). Assumes nothing.
use Prim.Native.Nat.{ℕ, suc}
use mathlib.Core.Path.{◌≡◌, refl}
use mathlib.Core.Bool.{Bool, true, ◌&&◌}
use mathlib.Core.List.{List, [], ◌∷◌, map as mapᴸ}
use Rattle.text.specs.Nom.{Parser, alt}
use Rattle.text.proofs.Laws.{and_left, and_right}
use Rattle.text.proofs.Takes.{Takes, takes_number, takes_number_or_zero, takes_range, takes_playlist_type}
use Rattle.text.proofs.Local.{Local, still, mv_range, mv_type, number_local, number_or_zero_local, range_local, type_local}
use Rattle.attributes.proofs.Source.{takes_extmap}
use Rattle.attributes.proofs.Local.{mv_map, extmap_local}
use Rattle.lengths.proofs.Takes.{takes_duration_title}
use Rattle.lengths.proofs.Local.{mv_extinf, duration_title_local}
use Rattle.tags.specs.Tags.{Tag, Row, row, mark, reads, first_of, playlist_rows, segment_rows, clips_from, alternative_of}
use Rattle.tags.proofs.Moves.{mv_tag}

-- ---- of every row: a test, and a fact by its number
abbrev pub hold_all : (Row → Bool) → List Row → Bool
hold_all t [] = true
hold_all t (r ∷ rs) = t r && hold_all t rs

infixr 30 ◌⊳◌
pub data Each (F : ℕ → Row → Type 0) : ℕ → List Row → Type 1 where
  last : {k : ℕ} → Each F k []
  ◌⊳◌ : {k : ℕ} {r : Row} {rs : List Row} → F k r → Each F (suc k) rs → Each F k (r ∷ rs)

-- what alternatives keep, the first of the rows that holds has, where each row has it
module _ (P : Parser Tag → Type 0) (none : P (first_of [])) (alts : (p q : Parser Tag) → P p → P q → P (alt p q))
    (F : ℕ → Row → Type 0) (t : Row → Bool) (one : (k : ℕ) (r : Row) → t r ≡ true → F k r → P (reads r)) where
  pub of_rows : (k : ℕ) (rs : List Row) → hold_all t rs ≡ true → Each F k rs → P (first_of (mapᴸ reads rs))
  of_rows k [] e last = none
  of_rows k (r ∷ []) e (h ⊳ last) = one k r (and_left (t r) true e) h
  of_rows k (r ∷ q ∷ rs) e (h ⊳ hs) =
      let more = hold_all t (q ∷ rs) in
      alts (reads r) (first_of (mapᴸ reads (q ∷ rs))) (one k r (and_left (t r) more e) h) (of_rows (suc k) (q ∷ rs) (and_right (t r) more e) hs)

-- ---- what follows a fixed text takes so many bytes, does not depend on what stands before, and gives only tags of the row's number
pub record After {A : Type 0} (p : Parser A) (f : A → Tag) (k : ℕ) : Type 0 where
  pub least : ℕ
  pub takes : Takes least p
  pub move : ℕ → A → A
  pub moves : Local move p
  pub same : (j : ℕ) (a : A) → f (move j a) ≡ mv_tag j (f a)
  pub numbered : (a : A) → alternative_of (f a) ≡ k

-- a fixed text alone gives a tag with no places in it
pub record Mark (x : Tag) (k : ℕ) : Type 0 where
  pub same : (j : ℕ) → x ≡ mv_tag j x
  pub numbered : alternative_of x ≡ k

abbrev pub Facts : ℕ → Row → Type 0
Facts k (row t p f) = After p f k
Facts k (mark t x) = Mark x k

after : {A : Type 0} {p : Parser A} {f : A → Tag} {k : ℕ} (j : ℕ) → Takes j p → (mv : ℕ → A → A) → Local mv p → ((j : ℕ) (a : A) → f (mv j a) ≡ mv_tag j (f a)) → ((a : A) → alternative_of (f a) ≡ k) → After p f k
after j w mv l s n = record { least = j; takes = w; move = mv; moves = l; same = s; numbered = n }

alone : {x : Tag} {k : ℕ} → ((j : ℕ) → x ≡ mv_tag j x) → alternative_of x ≡ k → Mark x k
alone s n = record { same = s; numbered = n }

-- ---- the rows, in order
pub head_facts : Each Facts 0 playlist_rows
head_facts =
    after 1 takes_number_or_zero still number_or_zero_local (λ j a. refl) (λ a. refl)  -- versionRow
    ⊳ after 1 takes_number still number_local (λ j a. refl) (λ a. refl)  -- targetDurationRow
    ⊳ after 1 takes_number still number_local (λ j a. refl) (λ a. refl)  -- mediaSequenceRow
    ⊳ after 1 takes_number still number_local (λ j a. refl) (λ a. refl)  -- discontinuitySequenceRow
    ⊳ after 2 takes_playlist_type mv_type type_local (λ j a. refl) (λ a. refl)  -- playlistTypeRow
    ⊳ alone (λ j. refl) refl  -- iFramesOnlyRow
    ⊳ alone (λ j. refl) refl  -- startRow
    ⊳ alone (λ j. refl) refl  -- independentSegmentsRow
    ⊳ alone (λ j. refl) refl  -- endListRow
    ⊳ last

pub clip_facts : Each Facts clips_from segment_rows
clip_facts =
    after 2 takes_duration_title mv_extinf duration_title_local (λ j a. refl) (λ a. refl)  -- extinfRow
    ⊳ after 1 takes_range mv_range range_local (λ j a. refl) (λ a. refl)  -- byteRangeRow
    ⊳ alone (λ j. refl) refl  -- discontinuityRow
    ⊳ alone (λ j. refl) refl  -- keyRow
    ⊳ after 7 takes_extmap mv_map extmap_local (λ j a. refl) (λ a. refl)  -- mapRow
    ⊳ alone (λ j. refl) refl  -- programDateTimeRow
    ⊳ alone (λ j. refl) refl  -- dateRangeRow
    ⊳ last
