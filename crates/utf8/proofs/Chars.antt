-- Character after character, as the length of each is told. Assumes nothing.
use Prim.Native.Nat.{ℕ, ◌+◌, ◌≤◌, ◌<◌}
use mathlib.Core.Path.{◌≡◌, sym}
use mathlib.Core.List.{List}
use native.Mathlib.Omega.{arith}
use lib.ListN.{length}
use Rattle.std.specs.Prelude.{None, Some}
use Rattle.text.specs.Why.{missing_byte}
use Rattle.text.specs.Utf8.{utf8_char, utf8_end}
use Rattle.text.proofs.Utf8.{takes_utf8_char, end_on, end_here}
use Rattle.utf8.specs.Answers.{char_of}

module _ (text : List ℕ) (at : ℕ) where
  -- each has a byte, and is within the text
  pub char_room : (n : ℕ) → char_of (Some n) at ≡ utf8_char text at → (0 < n) × (at + n ≤ length text)
  char_room n e = let w = takes_utf8_char text at (at + n) tt (sym e) in (omega (arith, w.0), w.1 (omega (arith, w.0)))

  pub end_stop : char_of None at ≡ utf8_char text at → utf8_end text at ≡ at
  end_stop e = end_here text at missing_byte (sym e)

  pub end_step : (n : ℕ) → char_of (Some n) at ≡ utf8_char text at → utf8_end text at ≡ utf8_end text (at + n)
  end_step n e = end_on text at (at + n) (sym e)
