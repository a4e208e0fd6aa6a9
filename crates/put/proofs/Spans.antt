-- What a span shows that does not lie within the text. Assumes nothing.
use mathlib.Core.Path.{◌≡◌, ap, sym, ◌∙◌}
use mathlib.Core.List.{List, []}
use Prim.Native.Nat.{ℕ, ◌-◌, ◌≤◌}
use native.Mathlib.Omega.{arith}
use lib.ListN.{length, take, drop, length-drop, drop_of_length-le}
use lib.Seq.{take_all, take-nil}
use Rattle.text.specs.Nom.{span}
use Rattle.text.specs.Spans.{shown}

module _ (text : List ℕ) (a b : ℕ) where
  pub shown_none : b ≤ a → shown text (span a b) ≡ []
  shown_none h = let e : b - a ≡ 0 = omega arith in rw e

  pub shown_past : length text ≤ a → shown text (span a b) ≡ []
  shown_past h = ap (take (b - a)) (drop_of_length-le text {i = a} h) ∙ take-nil (b - a)

  -- up to the text's end
  pub shown_rest : length text ≤ b → shown text (span a b) ≡ take (length text - a) (drop a text)
  shown_rest h = take_all (b - a) (drop a text) (omega (arith, length-drop a text)) ∙ sym (take_all (length text - a) (drop a text) (omega (arith, length-drop a text)))
