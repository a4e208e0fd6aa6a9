-- The lines of the reader's pass, before the first step, one step on, and after the last. Assumes nothing.
use Prim.Native.Nat.{ℕ, zero, suc, ◌+◌, ◌-◌, ◌≤◌, ◌<◌}
use mathlib.Core.Path.{◌≡◌, refl, sym, ap, ◌∙◌}
use mathlib.Core.List.{List, ◌++◌, append-nil, append_assoc}
use native.Mathlib.Omega.{arith}
use Rattle.text.specs.Spans.{shown}
use Rattle.tables.specs.Refusal.{given}
use Rattle.cue_file.specs.Format.{version1}
use Rattle.cue_file.specs.Read.{Cursor, next, count_in, start_in, uri_place, uri_in, cues}
use Rattle.cue_file.proofs.Judged.{place_step, cues_takes, uri_within}
use Rattle.cue_file.proofs.Pass.{cursor_at, pass_opens, pass_steps}
use Rattle.output.proofs.Laws.{part_there}
use Rattle.cues.specs.Shown.{header_line, cue_line, cue_lines}
use Rattle.cues.specs.Inside.Pass.{span_line, step_line, step_after, pass_lines, pass_text}

-- no step is done
pub pass_starts : (file : List ℕ) (c : Cursor) (n : ℕ) → pass_lines file c (n - 0) ≡ pass_lines file c n
pass_starts file c n = ap (pass_lines file c) (omega arith)

module _ (file put : List ℕ) (c : Cursor) (n k : ℕ) where
  -- one step of n on: what is put and what is left are the whole
  pub pass_on : (d : Cursor) → k < n → d ≡ step_after c (next version1 file c) → (put ++ step_line file (next version1 file c)) ++ pass_lines file d (n - (k + 1)) ≡ put ++ pass_lines file c (n - k)
  unfolding pass_lines
  pass_on d h e =
      let q : n - k ≡ suc (n - (k + 1)) = omega arith in
      rw (q, e, append_assoc)

  -- no step is left
  pub pass_ends : n ≤ k → put ≡ put ++ pass_lines file c (n - k)
  unfolding pass_lines
  pass_ends h =
      let q : n - k ≡ 0 = omega arith in
      rw q (sym (append-nil put))

-- ---- the pass over a file that was opened prints the lines of its clips
module _ (file : List ℕ) (c : Cursor) (o : cues version1 file ≡ given c) where
  -- what a step gives lies within the file
  uri_part : (k : ℕ) → k < count_in version1 file → span_line file k (start_in version1 file k) (uri_in version1 file k) ≡ cue_line k (start_in version1 file k) (shown file (uri_in version1 file k))
  uri_part k h =
      let w = uri_within version1 file (cues_takes version1 file c o) k h in
      let e = part_there file (uri_place version1 file k) (uri_place version1 file (suc k)) (omega (arith, w, place_step version1 file k)) (omega (arith, place_step version1 file k)) in
      ap (cue_line k (start_in version1 file k)) (sym e)

  lines_from : (m k : ℕ) → k + m ≡ count_in version1 file → pass_lines file (cursor_at version1 file k) m ≡ cue_lines file k m
  unfolding pass_lines cue_lines
  lines_from zero k e = refl
  lines_from (suc m) k e =
      let h : k < count_in version1 file = omega (arith, e) in
      rw (pass_steps version1 file c o k h, uri_part k h, lines_from m (suc k) (omega (arith, e)))

  pub opened_text : pass_text file c ≡ header_line ++ cue_lines file 0 (count_in version1 file)
  opened_text = ap (pass_text file) (pass_opens version1 file c o) ∙ ap (λ (xs : List ℕ). header_line ++ xs) (lines_from (count_in version1 file) 0 (omega arith))
