-- The writer for a head that comes in as its eleven numbers: "Writer: 1, 9, 10", where numbers that no head has break rule 9. Assumes nothing.
use Rattle.std.specs.Prelude.{ℕ, ◌≡◌, List, [], leb, length}
use Rattle.std.proofs.Math.Option.{Option, none, some}
use Rattle.tables.specs.Refusal.{Answer, refused, laid, or_refuse, text_too_long, broken_table}
use Rattle.tables.specs.Layout.{text_limit}
use Rattle.assembly.specs.Assembly.{Head}
use Rattle.playlist.specs.Calls.{written_text, write_to}
use Rattle.ledgerfern.specs.declared.Head as headᵈ
use Rattle.ledgerfern.specs.declared.Written as writtenᵈ
use Rattle.ledgerfern.specs.Heads.{head_of}
use Rattle.ledgerfern.specs.Numbers.{written_numbers}

-- no head, whatever the tables and the output: 1 comes before 9
abbrev pub write_none : List ℕ → Answer ℕ
write_none text = or_refuse (leb (length text) text_limit) text_too_long 0 (refused broken_table 0)

module _ (text clips : List ℕ) (n : ℕ) (tags : List ℕ) (m : ℕ) where
  abbrev pub write_with : Option Head → ℕ → Answer ℕ
  write_with none room = write_none text
  write_with (some h) room = write_to text h clips n tags m room

  abbrev pub text_with : Option Head → List ℕ
  text_with none = []
  text_with (some h) = written_text text h clips n tags m

  -- all that the call says: its numbers, and each byte of the output after it
  pub record WriteAs (h : headᵈ.Head) (out₀ out : List ℕ) (r : writtenᵈ.Written) : Type 0 where
    pub answered : r ≡ written_numbers (write_with (head_of h) (length out₀))
    pub out_after : out ≡ laid (write_with (head_of h) (length out₀)) (text_with (head_of h)) out₀
