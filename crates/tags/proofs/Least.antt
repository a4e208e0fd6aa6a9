-- The fewest bytes of a step: it ends where no blank stands; a URI that begins there takes two bytes, unless the text ends with it; an unknown tag takes
-- seven. What was taken tells its own rule (`numbered`). Assumes nothing.
use Prim.Native.Nat.{ℕ, ◌+◌, ◌≤◌, ◌<◌}
use mathlib.Core.Path.{◌≡◌, ap, ◌∙◌}
use mathlib.Core.List.{List}
use native.Mathlib.Omega.{arith}
use lib.ListN.{length}
use Rattle.text.specs.Nom.{ok, Span, run_end, is_multispace}
use Rattle.text.specs.Util.{consume_line}
use Rattle.text.specs.BasicTags.{ExtTag}
use Rattle.text.proofs.Laws.{run_from}
use Rattle.text.proofs.Takes.{bind_ok}
use Rattle.text.proofs.Blanks.{NotBlank, not_blank_after, line_takes_two}
use Rattle.tags.specs.Tags.{Tag, unknown, uri, media_playlist_tag, took, step}
use Rattle.tags.proofs.Takes.{takes_unknown, takes_media_playlist_tag}
use Rattle.tags.proofs.Numbered.{numbered}

module _ (text : List ℕ) (at n from : ℕ) where
  -- a step that was taken: its tag, and the blanks behind it
  step_parts : (t : Tag) → step text at ≡ ok (took from t) n → (end : ℕ) × (media_playlist_tag text at ≡ ok t end) × (run_end is_multispace text end ≡ n)
  unfolding step
  step_parts t e =
      let f = bind_ok (media_playlist_tag text at) _ (took from t) n e in
      let z : f.0 ≡ t = cc f.3 in
      (f.1, f.2 ∙ ap (λ (x : Tag). ok x f.1) z, cc f.3)

  pub step_ends : (t : Tag) → step text at ≡ ok (took from t) n → NotBlank text n
  step_ends t e = let f = step_parts t e in rw (← f.2) (not_blank_after text f.0)

  pub uri_takes_two : (u : Span) → step text at ≡ ok (took from (uri u)) n → NotBlank text at → n < length text → at + 2 ≤ n
  uri_takes_two u e first more =
      let f = step_parts (uri u) e in
      let g = bind_ok (consume_line text at) _ (uri u) f.0 (numbered text at f.0 (uri u) f.1).holds in
      let end : g.1 ≡ f.0 = cc g.3 in
      let past : f.0 ≤ n = omega (arith, f.2, run_from is_multispace text f.0) in
      let there : at < length text = omega (arith, (takes_media_playlist_tag text at f.0 (uri u) f.1).0) in
      omega (arith, line_takes_two text at first there g.1 g.0 g.2 (omega arith))

  pub unknown_takes_seven : (t : ExtTag) → step text at ≡ ok (took from (unknown t)) n → at + 7 ≤ n
  unknown_takes_seven t e =
      let f = step_parts (unknown t) e in
      let w = takes_unknown text at f.0 (unknown t) (numbered text at f.0 (unknown t) f.1).holds in
      omega (arith, w.0, f.2, run_from is_multispace text f.0)
