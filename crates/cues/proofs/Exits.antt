-- What is said at each exit: 1 by the program's own size, the reader's refusals, and the lines of a file that was taken. Assumes nothing.
use Prim.Native.Nat.{ℕ, ◌≤◌, ◌<◌}
use mathlib.Core.Path.{◌≡◌, refl, sym, ap, ◌∙◌}
use mathlib.Core.Bool.{Bool, true, false}
use mathlib.Core.List.{List}
use native.Mathlib.Omega.{arith}
use lib.Dec.{leb}
use lib.ListN.{length, take}
use lib.Seq.{take_all}
use Rattle.std.proofs.Common.{length-take-le}
use borrow.Author.Tests.{le-leb, lt-leb, leb-true, leb-false}
use Rattle.tables.specs.Refusal.{Refusal, refused, given, text_too_long}
use Rattle.tables.proofs.Refusals.{given_refuses}
use Rattle.cue_file.specs.Format.{version1}
use Rattle.cue_file.specs.Read.{Cursor, cues}
use Rattle.cue_file.proofs.Judged.{judged_front, cues_takes}
use Rattle.cues.specs.Shown.{file_size, shown_file}
use Rattle.cues.specs.Inside.Pass.{pass_text}
use Rattle.cues.proofs.Pass.{opened_text}

module _ (file : List ℕ) where
  pub too_long : file_size < length file → shown_file file ≡ refused text_too_long 0
  unfolding shown_file
  too_long h = rw (lt-leb (length file) file_size h)

  module _ (short : length file ≤ file_size) where
    pub not_taken : (r : Refusal) (p : ℕ) → cues version1 file ≡ refused r p → shown_file file ≡ refused r p
    unfolding shown_file cues
    not_taken r p e = rw (le-leb (length file) file_size short) ((judged_front version1 file).refuses _ _ (given_refuses _ _) r p e)

    pub was_taken : (c : Cursor) → cues version1 file ≡ given c → shown_file file ≡ given (pass_text file c)
    unfolding shown_file
    was_taken c o = rw (le-leb (length file) file_size short, opened_text file c o) ((judged_front version1 file).on _ (cues_takes version1 file c o))

-- ---- the program reads a byte more than it shows: of what is longer, that it is
module _ (file : List ℕ) where
  pub front_shows : shown_file (take 393217 file) ≡ shown_file file
  front_shows = go (leb (length file) file_size) refl
    where
      go : (b : Bool) → leb (length file) file_size ≡ b → shown_file (take 393217 file) ≡ shown_file file
      go true e = ap shown_file (take_all 393217 file (omega (arith, leb-true (length file) file_size e)))
      go false e =
          let long : file_size < length file = leb-false (length file) file_size e in
          let front : length (take 393217 file) ≡ 393217 = length-take-le 393217 file (omega (arith, long)) in
          too_long (take 393217 file) (omega (arith, front)) ∙ sym (too_long file long)
