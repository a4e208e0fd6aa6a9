-- The verdict line by line: where no line can be taken it is media, and a line that was taken decides, or leaves it to those after. Assumes nothing.
use Prim.Native.Nat.{ℕ}
use mathlib.Core.Path.{◌≡◌, ap}
use mathlib.Core.List.{List}
use Rattle.text.specs.Why.{Why}
use Rattle.text.specs.Nom.{fail, ok}
use Rattle.text.proofs.Many.{Falls, many_stop, items_step}
use Rattle.text.proofs.Takes.{takes_falls}
use Rattle.verdict.specs.Verdict.{Says, is_master_playlist_tag_line, media, or_later, first_said, verdict_from}
use Rattle.verdict.proofs.Takes.{takes_tag_line}

module _ (text : List ℕ) where
  pub line_falls : Falls is_master_playlist_tag_line text
  line_falls = takes_falls 0 is_master_playlist_tag_line takes_tag_line text

  pub verdict_stop : (at : ℕ) (why : Why) → is_master_playlist_tag_line text at ≡ fail why → verdict_from text at ≡ media
  unfolding verdict_from first_said
  verdict_stop at why e = rw (many_stop is_master_playlist_tag_line text line_falls at why e)

  pub verdict_step : (at n : ℕ) (s : Says) → is_master_playlist_tag_line text at ≡ ok s n → verdict_from text at ≡ or_later s (verdict_from text n)
  unfolding verdict_from first_said
  verdict_step at n s e = ap first_said (items_step is_master_playlist_tag_line text line_falls at n s e)
