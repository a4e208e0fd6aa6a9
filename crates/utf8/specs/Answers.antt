-- What each answer of the code says, in the words of the rules. Assumes nothing.
use Rattle.std.specs.Prelude.{ℕ, ◌+◌, Bool, Option, None, Some}
use Rattle.text.specs.Why.{missing_byte}
use Rattle.text.specs.Nom.{Res, fail, ok, when}

-- a test of bytes that are taken up to n (shut, so that a proof that names it need not name the test)
unfoldable pub taken : Bool → ℕ → Res (Unit {0})
taken b n = when b missing_byte (ok tt n)

-- a character of so many bytes, or none
abbrev pub char_of : Option ℕ → ℕ → Res (Unit {0})
char_of None at = fail missing_byte
char_of (Some n) at = ok tt (at + n)
