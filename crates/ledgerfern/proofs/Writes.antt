-- What the writer's call says, by whether its numbers are a head's. Assumes nothing.
use Prim.Native.Nat.{ℕ}
use mathlib.Core.Path.{◌≡◌, refl, ◌∙◌, ap}
use mathlib.Core.Bool.{Bool, true, false}
use mathlib.Core.List.{List, []}
use mathlib.Core.Option.{none, some}
use lib.Dec.{leb}
use lib.ListN.{length}
use Rattle.tables.specs.Refusal.{Answer, refused, laid, or_refuse, text_too_long, broken_table}
use Rattle.tables.specs.Layout.{text_limit}
use Rattle.assembly.specs.Assembly.{Head}
use Rattle.playlist.specs.Calls.{written_text, write_to}
use Rattle.ledgerfern.specs.declared.Head as headᵈ
use Rattle.ledgerfern.specs.declared.Written as writtenᵈ
use Rattle.ledgerfern.specs.Numbers.{written_numbers}
use Rattle.ledgerfern.specs.Heads.{head_of}
use Rattle.ledgerfern.specs.Write.{write_none, WriteAs}

module _ {text clips : List ℕ} {n : ℕ} {tags : List ℕ} {m : ℕ} {h : headᵈ.Head} {out : List ℕ} {r : writtenᵈ.Written} where
  pub no_head : head_of h ≡ none → r ≡ written_numbers (write_none text) → WriteAs text clips n tags m h out out r
  no_head e a = record { answered = rw e a; out_after = rw e (go (leb (length text) text_limit)) }
    where
      go : (b : Bool) → out ≡ laid {A = ℕ} (or_refuse b text_too_long 0 (refused broken_table 0)) [] out
      go true = refl
      go false = refl

  pub a_head : {after : List ℕ} {g : Head} {a : Answer ℕ} → head_of h ≡ some g → r ≡ written_numbers a → a ≡ write_to text g clips n tags m (length out)
      → after ≡ laid (write_to text g clips n tags m (length out)) (written_text text g clips n tags m) out → WriteAs text clips n tags m h out after r
  a_head e q w o = record { answered = rw e (q ∙ ap written_numbers w); out_after = rw e o }
