-- What is printed at each exit: 1 by the program's own size, the reader's refusals, and the sheet of what was read. Rests on the reader's guarantees.
-- Assumes nothing.
use Prim.Native.Nat.{ℕ, ◌≤◌, ◌<◌}
use mathlib.Core.Path.{◌≡◌, refl, sym, ap, ◌∙◌}
use mathlib.Core.Bool.{Bool, true, false}
use mathlib.Core.List.{List, ◌++◌}
use native.Mathlib.Omega.{arith}
use lib.Dec.{leb}
use lib.ListN.{length, take}
use lib.Seq.{take_all}
use Rattle.std.proofs.Common.{length-take-le}
use borrow.Author.Tests.{le-leb, lt-leb, leb-true, leb-false}
use Rattle.tables.specs.Refusal.{Refusal, refused, given, laid, number_of}
use Rattle.assembly.specs.Words.{clips_words}
use Rattle.media.specs.Calls.{parse_media_playlist, clips_read}
use Rattle.media.specs.declared.Read as readᵈ
use Rattle.media.specs.Answers.{read_seen}
use Rattle.read_clips.proofs.Table.{clips_count, clips_sound}
use Rattle.std.specs.Prelude.{Option, None, IfSome}
use Rattle.std.specs.Io.KnownBytes.{Appends}
use Rattle.output.specs.declared.Output.{Output}
use Rattle.output.specs.Held.{waits, why, behind, held}
use Rattle.output.specs.Puts.{Sends}
use Rattle.output.proofs.Laws.{sent}
use Rattle.printing.proofs.Exits.{if_some}
use Rattle.printing.specs.Lines.{refused_line}
use Rattle.printing.specs.Said.{printed}
use Rattle.sheet.specs.Sheet.{text_size, clip_room, tag_room, read_sheet, sheet_text}
use Rattle.sheet.specs.Inside.Pass.{words_sheet}
use Rattle.sheet.proofs.Words.{words_sheet_lem}

module _ (text : List ℕ) where
  pub too_long : text_size < length text → refused_line 1 0 ≡ sheet_text text
  unfolding sheet_text
  too_long h = rw (lt-leb (length text) text_size h)

  module _ (short : length text ≤ text_size) where
    within : printed (read_sheet text) ≡ sheet_text text
    unfolding sheet_text
    within = rw (le-leb (length text) text_size short)

    pub not_read : (r : Refusal) (p : ℕ) → parse_media_playlist text clip_room tag_room ≡ refused r p → refused_line (number_of r) p ≡ sheet_text text
    unfolding read_sheet
    not_read r p e = rw e at within

    -- the words of the clips that were read, with whatever stands behind them
    module _ (r : readᵈ.Read) (e : parse_media_playlist text clip_room tag_room ≡ given (read_seen r)) where
      sheet_read : (rest : List ℕ) → words_sheet text (clips_words (clips_read text) ++ rest) (length (clips_read text)) ≡ read_sheet text
      unfolding read_sheet
      sheet_read rest =
          rw e (words_sheet_lem text rest (clips_read text) (clips_sound text clip_room tag_room r e))

      pub was_read : (entry words : List ℕ) → words ≡ laid (parse_media_playlist text clip_room tag_room) (clips_words (clips_read text)) entry → printed (words_sheet text words r.clips) ≡ sheet_text text
      was_read entry words w = rw (w, e, clips_count text clip_room tag_room r e, sheet_read _) within

-- ---- the program reads a byte more than it prints the sheet of: of what is longer, that it is
module _ (text : List ℕ) where
  pub front_prints : sheet_text (take 65537 text) ≡ sheet_text text
  front_prints = go (leb (length text) text_size) refl
    where
      go : (b : Bool) → leb (length text) text_size ≡ b → sheet_text (take 65537 text) ≡ sheet_text text
      go true e = ap sheet_text (take_all 65537 text (omega (arith, leb-true (length text) text_size e)))
      go false e =
          let long : text_size < length text = leb-false (length text) text_size e in
          let front : length (take 65537 text) ≡ 65537 = length-take-le 65537 text (omega (arith, long)) in
          sym (too_long (take 65537 text) (omega (arith, front))) ∙ too_long text long

-- what came is printed and written: then all that the reader had is
module _ {W : Type 0} (contents : W → Option (List ℕ)) (o p q : Output W) (remaining : Option (List ℕ)) (text : List ℕ) (count : ℕ) where
  pub front_printed : length text ≡ 65537 → IfSome remaining (λ bytes. take count text ≡ take (length text) bytes) → Sends contents o p (sheet_text (take count text))
      → why p ≡ None → Appends (contents (behind p)) (contents (behind q)) (waits p) → IfSome remaining (λ bytes. Appends (held contents o) (contents (behind q)) (sheet_text bytes))
  front_printed long came sends went wrote =
      if_some remaining (λ bytes. take count text ≡ take (length text) bytes) (λ bytes. Appends (held contents o) (contents (behind q)) (sheet_text bytes))
      (λ bytes e. rw (ap sheet_text (rw long at e) ∙ front_prints bytes) at (sent contents (behind q) sends went wrote))
      came
