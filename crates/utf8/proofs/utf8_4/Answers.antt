-- Row by row: the first octet of a row decides, and where it is not there the rows behind have the answer. Assumes nothing.
use Prim.Native.Nat.{ℕ}
use mathlib.Core.List.{List}
use mathlib.Core.Path.{◌≡◌, refl, ◌∙◌}
use lib.ListN.{drop}
use Rattle.text.specs.Utf8.{UTF8-4, one_of}
use Rattle.utf8.proofs.Rows.{from_left, last, then, none_left, row_there, row_past}
use Rattle.utf8.proofs.utf8_4.Goals as goal
use Rattle.utf8.proofs.utf8_4.Goals.{Else-octet, Else-octet-2, Else-octet-3}

-- after so many rows, those that are left have the answer
abbrev Left : ℕ → List ℕ → ℕ → Type 0
Left k text at = one_of (drop k UTF8-4) text at ≡ one_of UTF8-4 text at

past1 : (c : Else-octet) → Left 1 c.args.text.now c.args.at
past1 c = row_past _ _ _ _ _ _ _ c.octet.ensures c.if-octet.false

past2 : (c : Else-octet-2) → Left 2 c.args.text.now c.args.at
past2 c = row_past _ _ _ _ _ _ _ c.octet-2.ensures c.if-octet-2.false ∙ row_past _ _ _ _ _ _ _ c.octet.ensures c.if-octet.false

past3 : (c : Else-octet-3) → Left 3 c.args.text.now c.args.at
past3 c = row_past _ _ _ _ _ _ _ c.octet-3.ensures c.if-octet-3.false ∙ row_past _ _ _ _ _ _ _ c.octet-2.ensures c.if-octet-2.false ∙ row_past _ _ _ _ _ _ _ c.octet.ensures c.if-octet.false

pub returns-then-octet : goal.returns-then-octet
returns-then-octet c =
    from_left c.octet-then-octet.result c.utf8_tail.result c.utf8_tail-then-octet.result _
    (row_there _ _ _ _ _ _ _ c.octet.ensures c.if-octet.true refl 4 _ (then _ _ 1 4 _ _ _ _ c.octet-then-octet.ensures (then _ _ 2 4 _ _ _ _ c.utf8_tail.ensures (last _ _ 3 _ _ c.utf8_tail-then-octet.ensures))))

pub returns-then-octet-2 : goal.returns-then-octet-2
returns-then-octet-2 c =
    from_left c.utf8_tail-then-octet-2.result c.utf8_tail-then-octet-2-2.result c.utf8_tail-then-octet-2-3.result _
    (row_there _ _ _ _ _ _ _ c.octet-2.ensures c.if-octet-2.true refl 4 _ (then _ _ 1 4 _ _ _ _ c.utf8_tail-then-octet-2.ensures (then _ _ 2 4 _ _ _ _ c.utf8_tail-then-octet-2-2.ensures (last _ _ 3 _ _ c.utf8_tail-then-octet-2-3.ensures)))) ∙ past1 (goal.at.returns-then-octet-2 c).Else-octet

pub returns-then-octet-3 : goal.returns-then-octet-3
returns-then-octet-3 c =
    from_left c.octet-then-octet-3.result c.utf8_tail-then-octet-3.result c.utf8_tail-then-octet-3-2.result _
    (row_there _ _ _ _ _ _ _ c.octet-3.ensures c.if-octet-3.true refl 4 _ (then _ _ 1 4 _ _ _ _ c.octet-then-octet-3.ensures (then _ _ 2 4 _ _ _ _ c.utf8_tail-then-octet-3.ensures (last _ _ 3 _ _ c.utf8_tail-then-octet-3-2.ensures)))) ∙ past2 (goal.at.returns-then-octet-3 c).Else-octet-2

pub returns : goal.returns
returns c = none_left _ _ _ ∙ past3 (goal.at.returns c).Else-octet-3
