-- Blanks, which are skipped between lines: a line that begins with none has a byte of its own, and then an end, unless the text ends there.
-- Assumes nothing.
use Prim.Native.Nat.{ℕ, ◌+◌, ◌≤◌, ◌<◌}
use mathlib.Core.Path.{◌≡◌, refl, sym, ◌∙◌}
use mathlib.Core.Bool.{Bool, true, false, not, ◌||◌, false≢true}
use mathlib.Core.List.{List, []}
use native.Mathlib.Nat.{add-zero}
use native.Mathlib.Omega.{arith}
use lib.Dec.{eqb}
use lib.ListN.{length, drop, get_or}
use lib.Seq.{drop-cons}
use Rattle.text.specs.Why.{lone_cr}
use Rattle.text.specs.Nom.{Res, fail, ok, Span, span, bytes, is_none_of, tagged, run_end, bind, tag, not_line_ending, opt, alt, is_multispace}
use Rattle.text.specs.Util.{consume_line}
use Rattle.text.proofs.Laws.{run_step, run_from}
use Rattle.text.proofs.Takes.{fail_not_ok, when_ok, bind_ok, takes_line, line_takes}
use Rattle.text.proofs.Ahead.{Every, Stops, run_ahead, run_ends}

-- no blank stands here
abbrev pub NotBlank : List ℕ → ℕ → Type 0
NotBlank text at = Stops is_multispace (drop at text)

pub not_blank_after : (text : List ℕ) (at : ℕ) → NotBlank text (run_end is_multispace text at)
not_blank_after = run_ends is_multispace

-- the same result with another value
other_value : {A B : Type 0} (r : Res A) (a b c : B) (n : ℕ) → bind r (λ _ m. ok a m) ≡ ok b n → bind r (λ _ m. ok c m) ≡ ok c n
other_value (fail why) a b c n e = absurd (fail_not_ok why b n e)
other_value (ok x m) a b c n e = cc

-- where a line's own bytes end, the line that begins there has none, and ends at the same place
module _ (text : List ℕ) (at : ℕ) where
  abbrev own_end : ℕ
  own_end = run_end (is_none_of (bytes "\r\n")) text at

  end_stays : run_end (is_none_of (bytes "\r\n")) text own_end ≡ own_end
  unfolding Every
  end_stays = let p = is_none_of (bytes "\r\n") in run_ahead text own_end p [] (drop own_end text) tt (run_ends p text at) refl ∙ add-zero own_end

  empty_line : (n : ℕ) (line : Span) → consume_line text at ≡ ok line n → consume_line text own_end ≡ ok (span own_end own_end) n
  unfolding consume_line
  empty_line n line e =
      let m = own_end in
      let f = bind_ok (not_line_ending text at) _ line n e in
      let w = when_ok (not (tagged (bytes "\r") text m) || tagged (bytes "\r\n") text m) lone_cr (span at m) f.0 m f.1 f.2 in
      rw (end_stays, w.0) (other_value (opt (alt (tag (bytes "\n")) (tag (bytes "\r\n"))) text m) f.0 line (span m m) n (rw (← w.2) at f.3))

module _ (text : List ℕ) (at : ℕ) (not-blank : NotBlank text at) (there : at < length text) where
  -- a byte that is no blank ends no line
  pub first_byte : at < run_end (is_none_of (bytes "\r\n")) text at
  first_byte =
      let b = get_or text at 0 in
      let q = rw (drop-cons text at 0 there) at not-blank in
      omega (arith, run_step (is_none_of (bytes "\r\n")) text at there (go (eqb 32 b) (eqb 9 b) (eqb 13 b) (eqb 10 b) q), run_from (is_none_of (bytes "\r\n")) text (at + 1))
    where
      go : (w x y z : Bool) → (w || (x || (y || (z || false)))) ≡ false → not (y || (z || false)) ≡ true
      go true x y z e = absurd (false≢true (sym e))
      go false true y z e = absurd (false≢true (sym e))
      go false false true z e = absurd (false≢true (sym e))
      go false false false z e = rw e

  -- it takes that byte and its end, unless the text ends there
  pub line_takes_two : (n : ℕ) (line : Span) → consume_line text at ≡ ok line n → n < length text → at + 2 ≤ n
  line_takes_two n line e more =
      let m = own_end text at in
      let rest = empty_line text at n line e in
      let past = (takes_line text m n (span m m) rest).0 in
      omega (arith, first_byte, (line_takes text m n (span m m) (omega (arith, past)) rest).0)
