-- No second answer fits `keeps_rule`, nor `bits_agree`: the promise names the answer. Assumes nothing.
use Prim.Native.Nat.{ℕ}
use mathlib.Core.Path.{◌≡◌, sym, ◌∙◌}
use mathlib.Core.Bool.{Bool}
use mathlib.Core.List.{List}
use Rattle.assembly.specs.Assembly.{Head}
use Rattle.rule9.specs.Rule9.{bits_agree, keeps_rule}

pub rule_once : (text : List ℕ) (h : Head) (clips : List ℕ) (n : ℕ) (tags : List ℕ) (m : ℕ) (a b : Bool) → a ≡ keeps_rule text h clips n tags m → b ≡ keeps_rule text h clips n tags m → a ≡ b
rule_once text h clips n tags m a b p q = p ∙ sym q

pub agree_once : (t : List ℕ) (k : ℕ) (a b : Bool) → a ≡ bits_agree t k → b ≡ bits_agree t k → a ≡ b
agree_once t k a b p q = p ∙ sym q
