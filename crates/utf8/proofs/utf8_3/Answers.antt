-- Row by row: the first octet of a row decides, and where it is not there the rows behind have the answer. Assumes nothing.
use Prim.Native.Nat.{ℕ}
use mathlib.Core.List.{List}
use mathlib.Core.Path.{◌≡◌, refl, ◌∙◌}
use lib.ListN.{drop}
use Rattle.text.specs.Utf8.{UTF8-3, one_of}
use Rattle.utf8.proofs.Rows.{last, then, none_left, row_there, row_past}
use Rattle.utf8.proofs.utf8_3.Goals as goal
use Rattle.utf8.proofs.utf8_3.Goals.{Else-octet, Else-octet-2, Else-octet-3, Else-octet-4}

-- after so many rows, those that are left have the answer
abbrev Left : ℕ → List ℕ → ℕ → Type 0
Left k text at = one_of (drop k UTF8-3) text at ≡ one_of UTF8-3 text at

past1 : (c : Else-octet) → Left 1 c.args.text.now c.args.at
past1 c = row_past _ _ _ _ _ _ _ c.octet.ensures c.if-octet.false

past2 : (c : Else-octet-2) → Left 2 c.args.text.now c.args.at
past2 c = row_past _ _ _ _ _ _ _ c.octet-2.ensures c.if-octet-2.false ∙ row_past _ _ _ _ _ _ _ c.octet.ensures c.if-octet.false

past3 : (c : Else-octet-3) → Left 3 c.args.text.now c.args.at
past3 c = row_past _ _ _ _ _ _ _ c.octet-3.ensures c.if-octet-3.false ∙ row_past _ _ _ _ _ _ _ c.octet-2.ensures c.if-octet-2.false ∙ row_past _ _ _ _ _ _ _ c.octet.ensures c.if-octet.false

past4 : (c : Else-octet-4) → Left 4 c.args.text.now c.args.at
past4 c = row_past _ _ _ _ _ _ _ c.octet-4.ensures c.if-octet-4.false ∙ row_past _ _ _ _ _ _ _ c.octet-3.ensures c.if-octet-3.false ∙ row_past _ _ _ _ _ _ _ c.octet-2.ensures c.if-octet-2.false ∙ row_past _ _ _ _ _ _ _ c.octet.ensures c.if-octet.false

pub returns-then-octet : goal.returns-then-octet
returns-then-octet c = row_there _ _ _ _ _ _ _ c.octet.ensures c.if-octet.true refl 3 _ (then _ _ 1 3 _ _ _ _ c.octet-then-octet.ensures (last _ _ 2 _ _ c.utf8_tail.ensures))

pub returns-then-octet-2 : goal.returns-then-octet-2
returns-then-octet-2 c = row_there _ _ _ _ _ _ _ c.octet-2.ensures c.if-octet-2.true refl 3 _ (then _ _ 1 3 _ _ _ _ c.utf8_tail-then-octet-2.ensures (last _ _ 2 _ _ c.utf8_tail-then-octet-2-2.ensures)) ∙ past1 (goal.at.returns-then-octet-2 c).Else-octet

pub returns-then-octet-3 : goal.returns-then-octet-3
returns-then-octet-3 c = row_there _ _ _ _ _ _ _ c.octet-3.ensures c.if-octet-3.true refl 3 _ (then _ _ 1 3 _ _ _ _ c.octet-then-octet-3.ensures (last _ _ 2 _ _ c.utf8_tail-then-octet-3.ensures)) ∙ past2 (goal.at.returns-then-octet-3 c).Else-octet-2

pub returns-then-octet-4 : goal.returns-then-octet-4
returns-then-octet-4 c = row_there _ _ _ _ _ _ _ c.octet-4.ensures c.if-octet-4.true refl 3 _ (then _ _ 1 3 _ _ _ _ c.utf8_tail-then-octet-4.ensures (last _ _ 2 _ _ c.utf8_tail-then-octet-4-2.ensures)) ∙ past3 (goal.at.returns-then-octet-4 c).Else-octet-3

pub returns : goal.returns
returns c = none_left _ _ _ ∙ past4 (goal.at.returns c).Else-octet-4
