-- A row of fields: what was written is read back, and what was read, written again, is the bytes that stood there. By induction on the widths.
-- Assumes nothing.
use mathlib.Core.Path.{◌≡◌, refl, ◌∙◌}
use mathlib.Core.Bool.{true, and-eq-true_iff}
use mathlib.Core.List.{List, [], ◌∷◌, ◌++◌, append_assoc}
use Prim.Native.Nat.{ℕ, ◌+◌, ◌^◌, ◌≤◌}
use native.Mathlib.Omega.{arith}
use lib.ListN.{length, take, drop, length-append}
use lib.Seq.{take-add, drop-drop}
use borrow.Author.Tests.{lt-ltb, ltb-true}
use Rattle.text.proofs.Ahead.{on}
use Rattle.cue_file.specs.Format.{bytes_of, value_at, holds, row_of, row_at, row_holds, row_width}
use Rattle.cue_file.proofs.Numbers.{Bytes, bytes_length, value_back, value_small, bytes_back}

pub row_length : (ws vs : List ℕ) → length (row_of ws vs) ≡ row_width ws
row_length [] vs = refl
row_length (w ∷ ws) [] = length-append (bytes_of w 0) (row_of ws []) ∙ omega (arith, bytes_length w 0, row_length ws [])
row_length (w ∷ ws) (v ∷ vs) = length-append (bytes_of w v) (row_of ws vs) ∙ omega (arith, bytes_length w v, row_length ws vs)

-- written, then read
pub row_back : (ws vs file : List ℕ) (at : ℕ) (xs : List ℕ) → length vs ≡ length ws → row_holds ws vs ≡ true
    → drop at file ≡ row_of ws vs ++ xs → row_at ws file at ≡ vs
row_back [] [] file at xs e h d = refl
row_back [] (v ∷ vs) file at xs e h d = absurd (omega arith)
row_back (w ∷ ws) [] file at xs e h d = absurd (omega arith)
row_back (w ∷ ws) (v ∷ vs) file at xs e h d =
    let p = (and-eq-true_iff (holds w v) (row_holds ws vs)).0 h in
    let first : drop at file ≡ bytes_of w v ++ (row_of ws vs ++ xs) = d ∙ append_assoc (bytes_of w v) (row_of ws vs) xs in
    let rest : drop (at + w) file ≡ row_of ws vs ++ xs = rw (bytes_length w v) at (on file at (bytes_of w v) (row_of ws vs ++ xs) first) in
    rw (value_back w v file at (row_of ws vs ++ xs) (ltb-true v (256 ^ w) p.0) first, row_back ws vs file (at + w) xs (omega arith) p.1 rest)

-- read, then written
module _ (file : List ℕ) (small : Bytes file) where
  pub row_holds_lem : (ws : List ℕ) (at : ℕ) → row_holds ws (row_at ws file at) ≡ true
  row_holds_lem [] at = refl
  row_holds_lem (w ∷ ws) at = rw (lt-ltb (value_at w file at) (256 ^ w) (value_small file small w at), row_holds_lem ws (at + w))

  pub row_bytes : (ws : List ℕ) (at : ℕ) → at + row_width ws ≤ length file → row_of ws (row_at ws file at) ≡ take (row_width ws) (drop at file)
  row_bytes [] at h = refl
  row_bytes (w ∷ ws) at h =
      rw (bytes_back file small w at (omega arith), row_bytes ws (at + w) (omega arith), take-add w (row_width ws) (drop at file), drop-drop w at file)
