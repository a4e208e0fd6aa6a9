-- What each known tag brings to the round trip, ONCE: what its rule gives is sound, and where the rule failed on an unknown tag's line it fails on that line
-- written again. A new tag adds a line to `head_kept` or `clip_kept`. Assumes nothing.
use Prim.Native.Nat.{ℕ}
use mathlib.Core.Path.{◌≡◌, refl, ◌∙◌}
use mathlib.Core.Bool.{Bool, true, false}
use mathlib.Core.List.{List, ◌++◌}
use Rattle.text.specs.Why.{other_text}
use Rattle.text.specs.Nom.{Parser, bytes, is_none_of, begins, tagged, tag, map, preceded}
use Rattle.tags.specs.Tags.{Tag, Row, row, mark, literal, playlist_rows, segment_rows, clips_from, extinf_row, map_row}
use Rattle.tags.proofs.Rows.{Each, last, ◌⊳◌}
use Rattle.text.specs.Spans.{same_bytes}
use Rattle.roundtrip.proofs.Edges.{Edge}
use Rattle.roundtrip.proofs.Gives.{Gives, Cut, gives_number, gives_number_or_zero, gives_range}
use Rattle.roundtrip.proofs.Values.{gives_type, gives_extinf, gives_map}
use Rattle.roundtrip.proofs.Sounds.{Sound}
use Rattle.roundtrip.proofs.Named.{begins_named}
use Rattle.roundtrip.proofs.Alike.{Failed, line_byte, every, OnLine, Alike, tagged_line, alike_number, alike_number_or_zero, alike_range, alike_type, alike_after}

abbrev pub name_byte : ℕ → Bool
name_byte = is_none_of (bytes "\r\n:")

abbrev pub rest_line : List ℕ → List ℕ → List ℕ
rest_line name rest = bytes "#EXT-" ++ (name ++ (bytes ":" ++ rest))

-- an unknown tag's line with a rest, as it stood at `at` and as it is written at the beginning of `out`; X-MAP is left out
pub record Twice (text : List ℕ) (at : ℕ) (out name rest : List ℕ) : Type 0 where
  pub plain : every name_byte name ≡ true
  pub not_map : same_bytes name (bytes "X-MAP") ≡ false
  pub stood : OnLine text at (rest_line name rest)
  pub written : OnLine out 0 (rest_line name rest)

abbrev pub Again : Parser Tag → Type 0
Again p = (text : List ℕ) (at : ℕ) (out name rest : List ℕ) → Twice text at out name rest → Failed (p text at) → Failed (p out 0)

pub record Kept {A : Type 0} (t : List ℕ) (p : Parser A) (f : A → Tag) : Type 0 where
  pub sound : (text : List ℕ) (at n : ℕ) → Edge text n → Gives (Cut text (λ a. Sound text at (f a))) (p text n)
  pub again : every line_byte t ≡ true → Again (map f (preceded (tag t) p))

-- a fixed text alone
pub record KeptMark (x : Tag) : Type 0 where
  pub sound : (text : List ℕ) (at : ℕ) → Sound text at x

abbrev pub Keep : ℕ → Row → Type 0
Keep k (row t p f) = Kept t p f
Keep k (mark t x) = KeptMark x

alone : {x : Tag} → ((text : List ℕ) (at : ℕ) → Sound text at x) → KeptMark x
alone s = record { sound = s }

module _ {A : Type 0} {t : List ℕ} {p : Parser A} {f : A → Tag} (s : (text : List ℕ) (at n : ℕ) → Edge text n → Gives (Cut text (λ a. Sound text at (f a))) (p text n)) where
  -- its failing depends on the line alone
  alike : Alike p → Kept t p f
  alike l = record { sound = s; again = λ e text at out name rest w. alike_after t e f p l text at out 0 (rest_line name rest) w.stood w.written }

  -- it is not on such a line
  never : ((text : List ℕ) (at : ℕ) (out name rest : List ℕ) → Twice text at out name rest → tagged t out 0 ≡ false) → Kept t p f
  never h = record { sound = s; again = λ e text at out name rest w _. (other_text, rw (h text at out name rest w)) }

no_extinf : (text : List ℕ) (at : ℕ) (out name rest : List ℕ) → Twice text at out name rest → tagged (literal extinf_row) out 0 ≡ false
unfolding begins
no_extinf text at out name rest w = tagged_line out 0 _ w.written (literal extinf_row) refl

no_map : (text : List ℕ) (at : ℕ) (out name rest : List ℕ) → Twice text at out name rest → tagged (literal map_row) out 0 ≡ false
unfolding begins
no_map text at out name rest w = tagged_line out 0 _ w.written (literal map_row) refl ∙ begins_named name_byte 58 refl (bytes "X-MAP") name rest refl w.plain ∙ w.not_map

-- ---- the rows, in order
pub head_kept : Each Keep 0 playlist_rows
head_kept =
    alike (λ text at. gives_number_or_zero text) alike_number_or_zero
    ⊳ alike (λ text at. gives_number text) alike_number
    ⊳ alike (λ text at. gives_number text) alike_number
    ⊳ alike (λ text at. gives_number text) alike_number
    ⊳ alike (λ text at. gives_type text) alike_type
    ⊳ alone (λ text at. tt)
    ⊳ alone (λ text at. tt)
    ⊳ alone (λ text at. tt)
    ⊳ alone (λ text at. tt)
    ⊳ last

pub clip_kept : Each Keep clips_from segment_rows
clip_kept =
    never (λ text at. gives_extinf text) no_extinf
    ⊳ alike (λ text at. gives_range text) alike_range
    ⊳ alone (λ text at. tt)
    ⊳ alone (λ text at. tt)
    ⊳ never (λ text at. gives_map text) no_map
    ⊳ alone (λ text at. tt)
    ⊳ alone (λ text at. tt)
    ⊳ last
