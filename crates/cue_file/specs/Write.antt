-- The writer's call (02, [3]): from a text and its clip table, whose starts are the clock's in turn 0. "Refusals, writer: 1; 9, the clock's rule and URI spans
-- within the text; 11; 33, a count, URI length or place too wide for its field; 10", each at place 0. Assumes nothing.
use Rattle.std.specs.Prelude.{Bool, ◌&&◌, List, ℕ, Result, leb, length}
use Rattle.text.specs.Nom.{Span, span}
use Rattle.text.specs.Spans.{span_in, shown}
use Rattle.tables.specs.Layout as layout
use Rattle.tables.specs.Table.{every, listed, clip_word}
use Rattle.tables.specs.declared.Refusal as refusalᵈ
use Rattle.tables.specs.Answers.{LaidAs}
use Rattle.tables.specs.Refusal.{Answer, given, or_refuse, text_too_long, broken_table, total_too_long, output_short, too_wide}
use Rattle.clock.specs.Clock as clock
use Rattle.cue_file.specs.Format.{Format, Cue, file_of, file_holds}

abbrev pub uri_of : List ℕ → ℕ → Span
uri_of t k = span (clip_word t k layout.uri_start) (clip_word t k layout.uri_end)

module _ (text t : List ℕ) where
  -- a clip's start, "turn 0's exact ns from the clock", and the bytes that its URI's span shows
  abbrev pub cue_of : ℕ → Cue
  cue_of k = record { start = clock.sum_lengths t k; uri = shown text (uri_of t k) }

  abbrev pub cues_of : ℕ → List Cue
  cues_of n = listed cue_of 0 n

  -- rule 9: "the clock's rule and URI spans within the text"
  unfoldable pub keeps_rule : ℕ → Bool
  keeps_rule n = clock.keeps_rule t n && every (λ k. span_in text (uri_of t k)) n

  -- 1; 9; 11: what the list must keep, whatever the format
  unfoldable pub list_keeps : {A : Type 0} → ℕ → Answer A → Answer A
  list_keeps n answer =
      or_refuse (leb (length text) layout.text_limit) text_too_long 0
      (or_refuse (keeps_rule n) broken_table 0
      (or_refuse (leb (clock.sum_lengths t n) clock.largest_total) total_too_long 0
      answer))

  module _ (f : Format) (n : ℕ) where
    abbrev pub written : List ℕ
    written = file_of f (cues_of n)

    -- 1; 9; 11; 33; 10; else how many bytes there are
    unfoldable pub cue_write : List ℕ → Answer ℕ
    cue_write out =
        list_keeps n
        (or_refuse (file_holds f (cues_of n)) too_wide 0
        (or_refuse (leb (length written) (length out)) output_short 0
        (given (length written))))

    -- all that the call says: its answer, and each byte of the output after it
    abbrev pub WrittenAs : List ℕ → List ℕ → Result ℕ refusalᵈ.Refusal → Type 0
    WrittenAs out₀ out r = LaidAs (cue_write out₀) written out₀ out r
