-- The alternatives as one numbered list: the step's rule is the first of them that holds, and what it took says which one that was, by its number. Each
-- gives only tags of its own number; then by induction on the list. Assumes nothing.
use Prim.Native.Nat.{ℕ, zero, suc, ◌+◌, ◌<◌}
use mathlib.Core.Path.{◌≡◌, refl, sym, ap, ◌∙◌}
use mathlib.Core.Bool.{Bool, true, false}
use mathlib.Core.List.{List, [], ◌∷◌, ◌++◌, map as mapᴸ}
use native.Mathlib.Nat.{add-zero}
use native.Mathlib.Omega.{arith}
use lib.Dec.{ltb}
use lib.ListN.{length, get_or}
use Rattle.text.specs.Why.{Why, other_text}
use Rattle.text.specs.Nom.{Res, fail, ok, Parser, or_else, tag, map, preceded}
use Rattle.text.specs.Util.{consume_line}
use Rattle.text.specs.BasicTags.{ext_tag, comment_tag}
use Rattle.text.proofs.Takes.{bind_ok}
use Rattle.text.proofs.Chain.{or_assoc}
use Rattle.tags.specs.Tags.{version, target_duration, media_sequence, discontinuity_sequence, typed, i_frames_only, independent_segments, end_list, timed, ranged, discontinuity, mapped, start, key, program_date_time, date_range, Tag, of_head, of_clip, unknown, comment, uri, left_out, Row, row, mark, reads, first_of, playlist_rows, segment_rows, clips_from, playlist_tag, segment_tag, other_tags, other_tag, media_segment_tag, media_playlist_tag, known_rows, alternatives, alternative_of}
use Rattle.tags.proofs.Begins.{head_first}
use Rattle.tags.proofs.Takes.{takes_media_playlist_tag}
use Rattle.tags.proofs.Rows.{Each, last, ◌⊳◌, Facts, head_facts, clip_facts}

-- ---- the step's rule is the first alternative that holds
module _ (text : List ℕ) (at : ℕ) where
  first_append : (ps qs : List (Parser Tag)) → 0 < length ps → 0 < length qs → or_else (first_of ps text at) (first_of qs text at) ≡ first_of (ps ++ qs) text at
  first_append [] qs a b = absurd (omega arith)
  first_append (p ∷ []) [] a b = absurd (omega arith)
  first_append (p ∷ []) (q ∷ qs) a b = refl
  first_append (p ∷ r ∷ ps) qs a b =
      sym (or_assoc (p text at) (first_of (r ∷ ps) text at) (first_of qs text at))
      ∙ ap (or_else (p text at)) (first_append (r ∷ ps) qs (omega arith) b)

  pub first_holds : at < length text → media_playlist_tag text at ≡ first_of alternatives text at
  unfolding playlist_tag segment_tag other_tag media_segment_tag
  first_holds h =
      sym (head_first text at h)
      ∙ or_assoc (playlist_tag text at) (segment_tag text at) (other_tag text at)
      ∙ ap (λ (r : Res Tag). or_else r (other_tag text at)) (first_append (mapᴸ reads playlist_rows) (mapᴸ reads segment_rows) (omega arith) (omega arith))
      ∙ first_append (mapᴸ reads known_rows) other_tags (omega arith) (omega arith)

-- ---- each alternative gives only tags of its number
abbrev Gives : ℕ → Parser Tag → Type 0
Gives k p = (text : List ℕ) (at n : ℕ) (t : Tag) → p text at ≡ ok t n → alternative_of t ≡ k

made_gives : {A : Type 0} (k : ℕ) (f : A → Tag) → ((a : A) → alternative_of (f a) ≡ k) → (p : Parser A) → Gives k (map f p)
made_gives k f same p text at n t e =
    let b = bind_ok (p text at) _ t n e in
    let z : f b.0 ≡ t = cc b.3 in
    rw (← z) (same b.0)

row_gives : (k : ℕ) (r : Row) → Facts k r → Gives k (reads r)
row_gives k (row t p f) h = made_gives k f h.numbered (preceded (tag t) p)
row_gives k (mark t x) h = made_gives k (λ _. x) (λ _. h.numbered) (tag t)

-- those of a list, from number k on
data Numbers : ℕ → List (Parser Tag) → Type 0 where
  none : {k : ℕ} → Numbers k []
  each : {k : ℕ} {p : Parser Tag} {ps : List (Parser Tag)} → Gives k p → Numbers (suc k) ps → Numbers k (p ∷ ps)

-- rows, and what stands behind them
numbers_on : (k m : ℕ) (rs : List Row) (ps : List (Parser Tag)) → m ≡ k + length rs → Each Facts k rs → Numbers m ps → Numbers k (mapᴸ reads rs ++ ps)
numbers_on k m [] ps e last ns = rw (← (e ∙ add-zero k)) ns
numbers_on k m (r ∷ rs) ps e (h ⊳ hs) ns = each (row_gives k r h) (numbers_on (suc k) m rs ps (omega arith) hs ns)

number_each : Numbers 0 alternatives
number_each =
    numbers_on 0 clips_from playlist_rows _ refl head_facts
    (numbers_on clips_from (length known_rows) segment_rows _ refl clip_facts
    (each (made_gives _ unknown (λ _. refl) ext_tag)
    (each (made_gives _ comment (λ _. refl) comment_tag)
    (each (made_gives _ uri (λ _. refl) consume_line)
    none))))

-- ---- what was taken tells which alternative took it
-- the alternative of a number; past the last, none holds
abbrev pub alternative : List (Parser Tag) → ℕ → Parser Tag
alternative ps k = get_or ps k (λ text at. fail other_text)

module _ (text : List ℕ) (at n : ℕ) (t : Tag) where
  -- alternative i holds with t up to n, and each before it fails
  pub record First (ps : List (Parser Tag)) (i : ℕ) : Type 0 where
    pub holds : alternative ps i text at ≡ ok t n
    pub before : (j : ℕ) → j < i → (why : Why) × (alternative ps j text at ≡ fail why)

  first_cons : (p : Parser Tag) (ps : List (Parser Tag)) → first_of (p ∷ ps) text at ≡ ok t n → or_else (p text at) (first_of ps text at) ≡ ok t n
  first_cons p [] e = rw e
  first_cons p (q ∷ ps) e = e

  first_here : (p : Parser Tag) (ps : List (Parser Tag)) → p text at ≡ ok t n → First (p ∷ ps) 0
  first_here p ps e = record { holds = e; before = λ j h. absurd (omega arith) }

  first_later : (p : Parser Tag) (ps : List (Parser Tag)) (i : ℕ) (why : Why) → p text at ≡ fail why → First ps i → First (p ∷ ps) (suc i)
  first_later p ps i why e f = record { holds = f.holds; before = go }
    where
      go : (j : ℕ) → j < suc i → (why : Why) × (alternative (p ∷ ps) j text at ≡ fail why)
      go zero h = (why, e)
      go (suc j) h = f.before j (omega arith)

  found : (k : ℕ) (ps : List (Parser Tag)) → Numbers k ps → first_of ps text at ≡ ok t n → (i : ℕ) × (alternative_of t ≡ k + i) × First ps i
  found k [] none e = (0, cc, record { holds = cc; before = λ j h. absurd (omega arith) })
  found k (p ∷ ps) (each g gs) e = go (p text at) refl (first_cons p ps e) (found (suc k) ps gs)
    where
      go : (r : Res Tag) → p text at ≡ r → or_else r (first_of ps text at) ≡ ok t n → (first_of ps text at ≡ ok t n → (i : ℕ) × (alternative_of t ≡ suc k + i) × First ps i)
          → (i : ℕ) × (alternative_of t ≡ k + i) × First (p ∷ ps) i
      go (fail why) f e later = let z = later e in (suc z.0, omega (arith, z.1), first_later p ps z.0 why f z.2)
      go (ok a m) f e later = (0, g text at n t (f ∙ e) ∙ sym (add-zero k), first_here p ps (f ∙ e))

  pub numbered : media_playlist_tag text at ≡ ok t n → First alternatives (alternative_of t)
  numbered e =
      let w = takes_media_playlist_tag text at n t e in
      let z = found 0 alternatives number_each (sym (first_holds text at (omega (arith, w.0, w.1 (omega (arith, w.0))))) ∙ e) in
      let same : z.0 ≡ alternative_of t = omega (arith, z.1) in
      rw same at z.2

-- ---- the first group is the known tags
abbrev pub known : Tag → Bool
known (of_head t) = true
known (of_clip t) = true
known (unknown t) = false
known (comment c) = false
known (uri u) = false
known (left_out t) = true

pub known_first : (t : Tag) → ltb (alternative_of t) (length known_rows) ≡ known t
known_first (of_head (version v)) = refl
known_first (of_head (target_duration d)) = refl
known_first (of_head (media_sequence n)) = refl
known_first (of_head (discontinuity_sequence n)) = refl
known_first (of_head (typed t)) = refl
known_first (of_head i_frames_only) = refl
known_first (of_head independent_segments) = refl
known_first (of_head end_list) = refl
known_first (of_clip (timed e)) = refl
known_first (of_clip (ranged r)) = refl
known_first (of_clip discontinuity) = refl
known_first (of_clip (mapped m)) = refl
known_first (unknown t) = refl
known_first (comment c) = refl
known_first (uri u) = refl
known_first (left_out start) = refl
known_first (left_out key) = refl
known_first (left_out program_date_time) = refl
known_first (left_out date_range) = refl
