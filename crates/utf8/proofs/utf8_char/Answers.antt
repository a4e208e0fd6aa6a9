-- UTF8-1 / UTF8-2 / UTF8-3 / UTF8-4: each that is not there leaves the answer to those behind it. Assumes nothing.
use Prim.Native.Nat.{ℕ}
use mathlib.Core.List.{List}
use mathlib.Core.Path.{◌≡◌, refl, sym, ◌∙◌}
use Rattle.text.specs.Why.{missing_byte}
use Rattle.text.specs.Nom.{Parser, alt}
use Rattle.text.specs.Utf8.{UTF8-2, UTF8-3, UTF8-4, one_of, utf8_char}
use Rattle.text.proofs.Chain.{alt_here, alt_skip}
use Rattle.text.proofs.Utf8.{char_rows}
use Rattle.utf8.proofs.Rows.{taken_yes, taken_no}
use Rattle.utf8.proofs.utf8_char.Goals as goal
use Rattle.utf8.proofs.utf8_char.Goals.{Else-utf8_1, Else-utf8_2, Else-utf8_3}

-- what is left has the answer
abbrev Left : Parser (Unit {0}) → List ℕ → ℕ → Type 0
Left p text at = p text at ≡ utf8_char text at

past1 : (c : Else-utf8_1) → Left (alt (one_of UTF8-2) (alt (one_of UTF8-3) (one_of UTF8-4))) c.args.text.now c.args.at
past1 c = alt_skip _ _ _ missing_byte (taken_no _ c.utf8_1.ensures c.if-utf8_1.false) refl ∙ sym (char_rows _ _)

past2 : (c : Else-utf8_2) → Left (alt (one_of UTF8-3) (one_of UTF8-4)) c.args.text.now c.args.at
past2 c = alt_skip _ _ _ missing_byte (taken_no _ c.utf8_2.ensures c.if-utf8_2.false) refl ∙ alt_skip _ _ _ missing_byte (taken_no _ c.utf8_1.ensures c.if-utf8_1.false) refl ∙ sym (char_rows _ _)

past3 : (c : Else-utf8_3) → Left (one_of UTF8-4) c.args.text.now c.args.at
past3 c = alt_skip _ _ _ missing_byte (taken_no _ c.utf8_3.ensures c.if-utf8_3.false) refl ∙ alt_skip _ _ _ missing_byte (taken_no _ c.utf8_2.ensures c.if-utf8_2.false) refl ∙ alt_skip _ _ _ missing_byte (taken_no _ c.utf8_1.ensures c.if-utf8_1.false) refl ∙ sym (char_rows _ _)

pub returns-then-utf8_1 : goal.returns-then-utf8_1
returns-then-utf8_1 c = alt_here _ _ _ _ (taken_yes c.utf8_1.ensures c.if-utf8_1.true) ∙ sym (char_rows _ _)

pub returns-then-utf8_2 : goal.returns-then-utf8_2
returns-then-utf8_2 c = alt_here _ _ _ _ (taken_yes c.utf8_2.ensures c.if-utf8_2.true) ∙ past1 (goal.at.returns-then-utf8_2 c).Else-utf8_1

pub returns-then-utf8_3 : goal.returns-then-utf8_3
returns-then-utf8_3 c = alt_here _ _ _ _ (taken_yes c.utf8_3.ensures c.if-utf8_3.true) ∙ past2 (goal.at.returns-then-utf8_3 c).Else-utf8_2

pub returns-then-utf8_4 : goal.returns-then-utf8_4
returns-then-utf8_4 c = sym (taken_yes c.utf8_4.ensures c.if-utf8_4.true) ∙ past3 (goal.at.returns-then-utf8_4 c).Else-utf8_3

pub returns : goal.returns
returns c = sym (taken_no _ c.utf8_4.ensures c.if-utf8_4.false) ∙ past3 (goal.at.returns c).Else-utf8_3
