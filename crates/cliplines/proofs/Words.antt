-- The text of a clip with no map, no discontinuity and no unknown tags is that of its words. Assumes nothing.
use mathlib.Core.Path.{◌≡◌, refl, sym, ◌∙◌}
use mathlib.Core.Bool.{Bool, true, false, not, ◌&&◌}
use mathlib.Core.List.{List, [], ◌++◌}
use Prim.Native.Nat.{ℕ, ◌/◌, ◌%◌, ◌<◌}
use native.Mathlib.Omega.{arith}
use lib.Dec.{eqb, ltb}
use borrow.Author.Tests.{ltb-true, eqb-true, ne_eqb}
use Rattle.std.specs.Prelude.{Option as Perhaps}
use Rattle.std.specs.Bool.{then_some}
use Rattle.text.specs.Nom.{Span, span}
use Rattle.text.specs.Util.{range}
use Rattle.text.specs.Spans.{shown}
use Rattle.text.proofs.Laws.{and_left, and_right}
use Rattle.leaves.specs.Answers.{offset_of}
use Rattle.tables.specs.Layout as layout
use Rattle.tables.specs.Table.{clip_word, has_flag}
use Rattle.records.specs.Records.{optional, part_at, range_at, map_at, clip_at}
use Rattle.playlist.specs.Lines.{byte_range_line, extinf_line, uri_line, line_bytes, line_if, lines_text, map_line_of, title_text}
use Rattle.playlist.specs.Inside.Texts.{run_text, clip_text}
use Rattle.playlist.proofs.Lines.{no_line, one_line}
use Rattle.playlist.proofs.Groups.{clip_text_lem}
use Rattle.cliplines.specs.Inside.Plain.{is_plain, plain_text}

-- ---- flags above those of a range
no_mark : (f : ℕ) → f < layout.has_discontinuity → has_flag f layout.has_discontinuity ≡ false
unfolding has_flag
no_mark f h = ne_eqb (f / 4 % 2) 1 (λ e. omega arith)

no_map : (f : ℕ) → f < layout.has_discontinuity → has_flag f layout.has_map ≡ false
unfolding has_flag
no_map f h = ne_eqb (f / 8 % 2) 1 (λ e. omega arith)

-- a title that is not there has words that show nothing
title_shown : (text : List ℕ) (a b : ℕ) → title_text text (part_at a b) ≡ shown text (span a b)
unfolding part_at
title_shown text a b = go (eqb a 0 && eqb b 0) refl
  where
    go : (t : Bool) → (eqb a 0 && eqb b 0) ≡ t → title_text text (optional (not t) (span a b)) ≡ shown text (span a b)
    go false e = refl
    go true e =
        let y : a ≡ 0 = eqb-true a 0 (and_left _ _ e) in
        let z : b ≡ 0 = eqb-true b 0 (and_right (eqb a 0) _ e) in
        rw (y, z)

no_run : (text tags : List ℕ) (m f n : ℕ) → n ≡ 0 → run_text text tags m f n ≡ []
no_run text tags m f n e = rw e no_line

-- ---- the lines of a range, by its words
module _ (f n o : ℕ) where
  pub range_none : has_flag f layout.has_range ≡ false → lines_text (line_if byte_range_line (range_at f layout.has_range layout.has_range_offset n o)) ≡ []
  unfolding range_at
  range_none e = rw e no_line

  -- its offset is there by its flag
  offset_by : (b : Bool) → offset_of (then_some b o) ≡ optional b o
  offset_by true = refl
  offset_by false = refl

  pub range_there : {b : Bool} {p : Perhaps ℕ} → has_flag f layout.has_range ≡ true → b ≡ has_flag f layout.has_range_offset → p ≡ then_some b o
      → line_bytes (byte_range_line (range n (offset_of p))) ≡ lines_text (line_if byte_range_line (range_at f layout.has_range layout.has_range_offset n o))
  unfolding range_at
  range_there {b} e g h = rw (e, h, offset_by b, ← g) (sym (one_line (byte_range_line (range n (optional b o)))))

-- ---- the text by words that were taken out of the table
pub words_text : (text clips : List ℕ) (k : ℕ) {f n o ns : ℕ} {title uri : Span}
    → f ≡ clip_word clips k layout.flags → n ≡ clip_word clips k layout.range_length → o ≡ clip_word clips k layout.range_offset → ns ≡ clip_word clips k layout.length_ns
    → title ≡ span (clip_word clips k layout.title_start) (clip_word clips k layout.title_end) → uri ≡ span (clip_word clips k layout.uri_start) (clip_word clips k layout.uri_end)
    → lines_text (line_if byte_range_line (range_at f layout.has_range layout.has_range_offset n o)) ++ (line_bytes (extinf_line ns (shown text title)) ++ line_bytes (uri_line (shown text uri)))
    ≡ plain_text text clips k
words_text text clips k e₁ e₂ e₃ e₄ e₅ e₆ = rw (e₁, e₂, e₃, e₄, e₅, e₆)

module _ (text tags clips : List ℕ) (m k : ℕ) (h : is_plain clips k ≡ true) where
  below : clip_word clips k layout.flags < layout.has_discontinuity
  below = ltb-true _ _ (and_left _ _ h)

  no_tags : clip_word clips k layout.tag_count ≡ 0
  no_tags = eqb-true _ _ (and_right (ltb (clip_word clips k layout.flags) layout.has_discontinuity) _ h)

  map_none : lines_text (line_if (map_line_of text) (map_at clips k)) ≡ []
  unfolding map_at
  map_none = rw (no_map (clip_word clips k layout.flags) below) no_line

  pub plain_text_lem : plain_text text clips k ≡ clip_text text tags m (clip_at clips k)
  unfolding clip_at
  plain_text_lem =
      sym (clip_text_lem text tags m (clip_at clips k)
      ∙ rw (
        map_none,
        no_mark (clip_word clips k layout.flags) below,
        no_run text tags m (clip_word clips k layout.first_tag) (clip_word clips k layout.tag_count) no_tags,
        title_shown text (clip_word clips k layout.title_start) (clip_word clips k layout.title_end),
      ))
