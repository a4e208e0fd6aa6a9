-- The whole reading of an admitted text: each of its steps began at an edge that is no blank, and took a sound tag. Assumes nothing.
use Prim.Native.Nat.{ℕ, ◌≤◌}
use mathlib.Core.Path.{◌≡◌, refl}
use mathlib.Core.Bool.{true}
use mathlib.Core.List.{List}
use native.Mathlib.Omega.{arith}
use lib.Dec.{leb, eqb}
use lib.ListN.{length}
use borrow.Author.Tests.{leb-true, eqb-true}
use Rattle.text.specs.Nom.{bytes, tagged}
use Rattle.text.specs.Utf8.{utf8_end}
use Rattle.text.proofs.Blanks.{not_blank_after}
use Rattle.tables.specs.Refusal.{given, text_too_long, not_utf8, no_header}
use Rattle.tables.proofs.Refusals.{front_or}
use Rattle.tables.specs.Layout.{text_limit}
use Rattle.verdict.specs.Calls.{header, admitted}
use Rattle.tags.specs.Tags.{step}
use Rattle.media.specs.Calls.{first_step, steps_of}
use Rattle.records.proofs.Back.{All}
use Rattle.roundtrip.proofs.Edges.{tag_ends, one_of_ends}
use Rattle.roundtrip.proofs.Gives.{many_gives}
use Rattle.roundtrip.proofs.Sound.{Here, SoundTaken, gives_step}

-- what 1, 2 and 3 let through
pub record Admitted (text : List ℕ) : Type 0 where
  pub short : length text ≤ text_limit
  pub utf8 : utf8_end text 0 ≡ length text
  pub begins_so : tagged header text 0 ≡ true

module _ (text : List ℕ) (admits : admitted text ≡ given tt) where
  pub admitted_text : Admitted text
  unfolding admitted
  admitted_text =
      let a = (front_or text_too_long 0 (leb (length text) text_limit)).passed _ _ admits in
      let b = (front_or not_utf8 (utf8_end text 0) (eqb (utf8_end text 0) (length text))).passed _ _ a.1 in
      let c = (front_or no_header 0 (tagged header text 0)).passed _ _ b.1 in
      record { short = leb-true (length text) text_limit a.0; utf8 = eqb-true (utf8_end text 0) (length text) b.0; begins_so = c.0 }

  first_here : Here text (first_step text)
  unfolding first_step
  first_here =
      (one_of_ends text 7 (bytes " \t\r\n") refl (tag_ends text 0 header (omega arith) (omega arith) admitted_text.begins_so), not_blank_after text 7)

  pub all_sound : All (SoundTaken text) (steps_of text)
  unfolding steps_of
  all_sound = (many_gives (SoundTaken text) (Here text) step text (gives_step text) (first_step text) first_here).0
