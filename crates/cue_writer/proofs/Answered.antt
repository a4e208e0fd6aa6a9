-- The writer's refusals one after the other, with what the code has in hand at each of its ways out. At rate 1 and in turn 0 the cursor
-- refuses as the rule does. Rests on the laws of the rule's checks. Assumes nothing.
use Rattle.std.specs.Prelude.{Result, Ok, Err}
use Prim.Native.Nat.{ℕ, ◌≤◌, ◌<◌}
use mathlib.Core.Path.{◌≡◌, sym, ap, ◌∙◌}
use mathlib.Core.Bool.{true, false, and-true, and-false}
use mathlib.Core.List.{List}
use native.Mathlib.Omega.{arith}
use lib.ListN.{length}
use borrow.Author.Tests.{le-leb}
use Rattle.tables.specs.Layout.{text_limit}
use Rattle.tables.specs.Table.{every, clips_fit}
use Rattle.tables.specs.Answers.{refusal_of, laid_of}
use Rattle.tables.specs.declared.Refusal as refusalᵈ
use Rattle.tables.specs.Refusal.{Answer, refused, given, text_too_long, broken_table, output_short, too_wide}
use Rattle.tables.proofs.Sets.{sets_over}
use Rattle.tables.proofs.Refusals.{given_refuses}
use Rattle.tables.proofs.Laying.{as_given}
use Rattle.clock.specs.Clock as clock
use Rattle.clock.specs.Calls.{timed, at_rate, in_turn}
use Rattle.clock.proofs.Lengths.{keeps_short}
use Rattle.clock.proofs.Calls.{InTurn, turn_front}
use Rattle.starts.specs.Starts.{starts}
use Rattle.starts.specs.Answers.{cursor_of, opened_of}
use Rattle.starts.specs.declared.Starts as startsᵈ
use Rattle.starts.proofs.Pass.{cursor_at, pass_opens}
use Rattle.put.specs.Put.{Puts}
use Rattle.put.proofs.Putting.{puts_as, fit_place, fit_bytes}
use Rattle.cue_file.specs.Format.{version1, file_holds}
use Rattle.cue_file.specs.Write.{cues_of, keeps_rule, list_keeps, written, cue_write, WrittenAs}
use Rattle.cue_file.proofs.Kept.{span_passes, rule_of, rule_clock, Keeps, keeps_1, keeps_9, write_33, write_10, write_given}
use Rattle.cue_writer.specs.Inside.Measure.{fields_hold, size}
use Rattle.cue_writer.specs.Inside.Pass.{pass_file}
use Rattle.cue_writer.proofs.Weighed.{UrisIn, written_length, file_holds_lem}
use Rattle.cue_writer.proofs.Pass.{pass_written}

module _ (text t : List ℕ) (n : ℕ) (out : List ℕ) where
  pub writer_1 : text_limit < length text → cue_write text t version1 n out ≡ refused text_too_long 0
  unfolding cue_write
  writer_1 h = keeps_1 text t n _ h

  module _ (short : length text ≤ text_limit) where
    -- 9: the count does not fit, or a URI is not in the text
    pub writer_9_count : clips_fit t n ≡ false → cue_write text t version1 n out ≡ refused broken_table 0
    unfolding cue_write
    writer_9_count e = keeps_9 text t n _ short (rule_clock text t n (keeps_short t n e))

    pub writer_9_uri : every (span_passes text t) n ≡ false → cue_write text t version1 n out ≡ refused broken_table 0
    unfolding cue_write keeps_rule
    writer_9_uri e = keeps_9 text t n _ short (rw e (and-false (clock.keeps_rule t n)))

    module _ (s : UrisIn text t n) where
      -- what is left of 9, and 11, the cursor refuses
      list_turn : {A : Type 0} (x : Answer A) → list_keeps text t n x ≡ in_turn t n 1 0 x
      unfolding list_keeps keeps_rule in_turn at_rate timed
      list_turn x = rw (le-leb (length text) text_limit short, s, and-true (clock.keeps_rule t n))

      pub writer_opens : (o : Result startsᵈ.Starts refusalᵈ.Refusal) (r : refusalᵈ.Refusal) → opened_of o ≡ starts t n 1 0 → o ≡ Err r
          → cue_write text t version1 n out ≡ refused (refusal_of r) 0
      unfolding cue_write starts
      writer_opens o r p e = list_turn _ ∙ (turn_front t n 1 0).refuses _ _ (given_refuses _ _) (refusal_of r) 0 (sym p ∙ ap opened_of e)

      -- ---- the cursor is open
      module _ (g : InTurn t n 1 0) where
        keeps : Keeps text t n
        keeps = record { short = short; rule = rule_of text t n g.table.keeps s; total = g.table.short }

        pub writer_33 : fields_hold t n ≡ false → cue_write text t version1 n out ≡ refused too_wide 0
        writer_33 e = write_33 text t n version1 out keeps (file_holds_lem text t n s g.table ∙ e)

        module _ (w : fields_hold t n ≡ true) where
          holds : file_holds version1 (cues_of text t n) ≡ true
          holds = file_holds_lem text t n s g.table ∙ w

          pub writer_10 : length out < size t n → cue_write text t version1 n out ≡ refused output_short 0
          writer_10 h = write_10 text t n version1 out keeps holds (omega (arith, written_length text t n s))

          -- all of the file has room, so that it stands at the output's front
          pub writes : (r : Result ℕ refusalᵈ.Refusal) (after : List ℕ) (at : ℕ) → size t n ≤ length out → Puts out 0 (pass_file text t (cursor_at t n 1 0 0)) after at
              → laid_of r ≡ given at → WrittenAs text t version1 n out after r
          writes r after at h p e =
              let file = written text t version1 n in
              let room : length file ≤ length out = omega (arith, written_length text t n s) in
              let q : Puts out 0 file after at = puts_as (pass_written text t n g s) p in
              let place : at ≡ length file = omega (arith, fit_place q (omega arith)) in
              let all = write_given text t n version1 out (record { keeps = keeps; holds = holds; room = room }) in
              as_given _ _ _ _ (length file) after (e ∙ ap given place) all (fit_bytes q (omega arith) ∙ sets_over out file room)

-- ---- what the opened cursor tells
module _ (t : List ℕ) (n : ℕ) (o : Result startsᵈ.Starts refusalᵈ.Refusal) (c : startsᵈ.Starts) (p : opened_of o ≡ starts t n 1 0) (e : o ≡ Ok c) where
  pub opened_turn : InTurn t n 1 0
  unfolding starts
  opened_turn = ((turn_front t n 1 0).passed _ (cursor_of c) (sym p ∙ ap opened_of e)).0

  pub opened_first : cursor_of c ≡ cursor_at t n 1 0 0
  opened_first = let q : given (cursor_of c) ≡ given (cursor_at t n 1 0 0) = sym (ap opened_of e) ∙ p ∙ pass_opens t n 1 0 opened_turn in cc

  pub opened_clips : c.clips ≡ n
  opened_clips = let q = opened_first in cc
