-- The public call `write_to`: "Writer: 1, 9, 10." Assumes nothing.
use Rattle.std.specs.Prelude.{ℕ, ◌≡◌, List, leb, length}
use Rattle.tables.specs.Refusal.{Answer, given, laid, or_refuse, text_too_long, broken_table, output_short}
use Rattle.tables.specs.Layout.{text_limit}
use Rattle.assembly.specs.Assembly.{Head}
use Rattle.records.specs.Records.{clips_at, tags_at}
use Rattle.rule9.specs.Rule9.{keeps_rule}
use Rattle.playlist.specs.Lines.{playlist_text}

module _ (text : List ℕ) (h : Head) (clips : List ℕ) (n : ℕ) (tags : List ℕ) (m : ℕ) where
  -- the text of a head, n clips and m unknown tags of lent tables
  unfoldable pub written_text : List ℕ
  written_text = playlist_text text h (clips_at clips n) (tags_at tags m)

  -- 1, 9, 10, each at place 0; else how many bytes were written
  unfoldable pub write_to : ℕ → Answer ℕ
  write_to room =
      or_refuse (leb (length text) text_limit) text_too_long 0
      (or_refuse (keeps_rule text h clips n tags m) broken_table 0
      (or_refuse (leb (length written_text) room) output_short 0
      (given (length written_text))))

  -- all that the call says: its answer, and each byte of the output after it: "Output past the text is unchanged"
  pub record WrittenAs {R : Type 0} (view : R → Answer ℕ) (out₀ out : List ℕ) (r : R) : Type 0 where
    pub answered : view r ≡ write_to (length out₀)
    pub out_after : out ≡ laid (write_to (length out₀)) written_text out₀
