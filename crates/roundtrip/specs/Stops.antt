-- Where a reading stops: "A lone CR stops the reading there, and the stopping place is that step's start. Otherwise it is the text's length." Assumes nothing.
use Rattle.std.specs.Prelude.{ℕ, ◌≡◌, Bool, true, not, ◌&&◌, List, length}
use Rattle.text.specs.Why.{lone_cr}
use Rattle.text.specs.Nom.{fail, bytes, is_none_of, tagged, run_end}
use Rattle.tags.specs.Tags.{uri_line}

-- where the line that begins here ends
abbrev pub line_end : List ℕ → ℕ → ℕ
line_end text at = run_end (is_none_of (bytes "\r\n")) text at

-- it ends at a CR that no LF follows
abbrev pub at_lone_cr : List ℕ → ℕ → Bool
at_lone_cr text at = tagged (bytes "\r") text (line_end text at) && not (tagged (bytes "\r\n") text (line_end text at))

-- a step's start at which the URI, the last of the alternatives, fails by that; or the text's length
pub data Stops (text : List ℕ) (n : ℕ) : Type 0 where
  lone : at_lone_cr text n ≡ true → uri_line text n ≡ fail lone_cr → Stops text n
  end : n ≡ length text → Stops text n
