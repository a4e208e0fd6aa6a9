-- What is said at each exit: 1 by the program's own size, the reader's refusals, and what the writer's call makes of the clips that were read. Assumes nothing.
use Prim.Native.Nat.{ℕ, ◌+◌, ◌≤◌, ◌<◌}
use mathlib.Core.Path.{◌≡◌, refl, sym, ap, ◌∙◌}
use mathlib.Core.Bool.{Bool, true, false}
use mathlib.Core.List.{List, ◌++◌}
use native.Mathlib.Omega.{arith}
use lib.Dec.{leb}
use lib.ListN.{length, take, drop, length-append}
use lib.Seq.{take_all}
use Rattle.std.proofs.Common.{length-take-le}
use borrow.Author.Tests.{le-leb, lt-leb, leb-true, leb-false}
use Rattle.tables.specs.Refusal.{Refusal, Answer, refused, given, laid, text_too_long}
use Rattle.std.specs.Prelude.{Result}
use Rattle.tables.specs.declared.Refusal as refusalᵈ
use Rattle.tables.specs.Answers.{laid_of}
use Rattle.cue_file.specs.Format.{version1}
use Rattle.cue_file.specs.Write.{WrittenAs, cue_write, written}
use Rattle.cue_file.proofs.Kept.{write_passed}
use Rattle.cue_file.proofs.Undo.{front_is}
use Rattle.assembly.specs.Words.{clips_words}
use Rattle.media.specs.Calls.{parse_media_playlist, clips_read}
use Rattle.media.specs.declared.Read as readᵈ
use Rattle.media.specs.Answers.{read_seen}
use Rattle.read_clips.proofs.Table.{clips_count, clips_sound}
use Rattle.cue.specs.File.{text_size, clip_room, tag_room, file_room, read_file, cue_file}
use Rattle.cue.specs.Inside.Words.{filed, words_file}
use Rattle.cue.proofs.Words.{words_file_lem}

module _ (text : List ℕ) where
  pub too_long : text_size < length text → cue_file text ≡ refused text_too_long 0
  unfolding cue_file
  too_long h = rw (lt-leb (length text) text_size h)

  module _ (short : length text ≤ text_size) where
    within : read_file text ≡ cue_file text
    unfolding cue_file
    within = rw (le-leb (length text) text_size short)

    pub not_read : (r : Refusal) (p : ℕ) → parse_media_playlist text clip_room tag_room ≡ refused r p → cue_file text ≡ refused r p
    unfolding read_file
    not_read r p e = sym within ∙ rw e

    -- the words of the clips that were read, with whatever stands behind them
    module _ (r : readᵈ.Read) (e : parse_media_playlist text clip_room tag_room ≡ given (read_seen r)) where
      file_read : (rest out : List ℕ) → length out ≡ file_room → words_file text (clips_words (clips_read text) ++ rest) (length (clips_read text)) out ≡ read_file text
      unfolding read_file
      file_read rest out l = rw (e, words_file_lem text rest (clips_read text) short (clips_sound text clip_room tag_room r e) out, l)

      pub was_read : (entry words out : List ℕ) → length out ≡ file_room → words ≡ laid (parse_media_playlist text clip_room tag_room) (clips_words (clips_read text)) entry
          → words_file text words r.clips out ≡ cue_file text
      was_read entry words out l w = rw (w, e, clips_count text clip_room tag_room r e) (file_read _ out l ∙ within)

-- ---- the program reads a byte more than it makes a file of: of what is longer, that it is
module _ (text : List ℕ) where
  pub front_files : cue_file (take 65537 text) ≡ cue_file text
  front_files = go (leb (length text) text_size) refl
    where
      go : (b : Bool) → leb (length text) text_size ≡ b → cue_file (take 65537 text) ≡ cue_file text
      go true e = ap cue_file (take_all 65537 text (omega (arith, leb-true (length text) text_size e)))
      go false e =
          let long : text_size < length text = leb-false (length text) text_size e in
          let front : length (take 65537 text) ≡ 65537 = length-take-le 65537 text (omega (arith, long)) in
          too_long (take 65537 text) (omega (arith, front)) ∙ sym (too_long text long)

-- ---- what the writer's call made: no file, or the one that stands at the front of its memory, which has room for it
module _ (text t : List ℕ) (n : ℕ) (out₀ out : List ℕ) (r : Result ℕ refusalᵈ.Refusal) (w : WrittenAs text t version1 n out₀ out r) where
  filed_answer : (answer : Answer ℕ) → laid_of r ≡ answer → words_file text t n out₀ ≡ filed answer (written text t version1 n)
  filed_answer answer e = ap (λ (x : Answer ℕ). filed x (written text t version1 n)) (sym w.answered ∙ e)

  pub none_made : (why : Refusal) (p : ℕ) → laid_of r ≡ refused why p → words_file text t n out₀ ≡ refused why p
  none_made why p e = filed_answer (refused why p) e

  module _ (m : ℕ) (e : laid_of r ≡ given m) where
    pub made : words_file text t n out₀ ≡ given (take m out)
    made = filed_answer (given m) e ∙ ap given (sym (front_is text t version1 n out₀ out r w m e))

    pub has_room : m ≤ length out
    has_room =
        let given_too : cue_write text t version1 n out₀ ≡ given m = sym w.answered ∙ e in
        let file = written text t version1 n in
        let after : out ≡ file ++ drop (length file) out₀ = rw given_too at w.out_after in
        let long : length out ≡ length file + length (drop (length file) out₀) = ap length after ∙ length-append file (drop (length file) out₀) in
        omega (arith, long, (write_passed text t n version1 out₀ m given_too).1)
