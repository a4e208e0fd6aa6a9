-- `same_resource`: spans that lie within the text show the same bytes where the first spells the second (`spells_shown`). Assumes nothing.
use mathlib.Core.Path.{◌≡◌, sym, ◌∙◌}
use Rattle.text.specs.Spans.{span_in}
use Rattle.text.proofs.Spans.{span_within, spells_shown}
use Rattle.window.specs.Window.{uri_of}
use Rattle.window.proofs.Laws.{other_first, other_second, same_bytes_lem}
use Rattle.window.proofs.same_resource.Goals as goal
use Rattle.window.proofs.same_resource.Goals.{After-span_fits, After-span_fits-2}

first : (c : After-span_fits) → let a = c.args in c.span_fits.result ≡ span_in a.text.now (uri_of a.words.now a.a)
first c = rw (← c.clip_word-from.ensures, ← c.clip_word-to.ensures) c.span_fits.ensures

second : (c : After-span_fits-2) → let a = c.args in c.span_fits-2.result ≡ span_in a.text.now (uri_of a.words.now a.b)
second c = rw (← c.clip_word-start.ensures, ← c.clip_word-end.ensures) c.span_fits-2.ensures

pub returns-then-not-span_fits : goal.returns-then-not-span_fits
returns-then-not-span_fits c = sym (other_first _ _ _ _ (sym (first (goal.at.returns-then-not-span_fits c).After-span_fits) ∙ c.if-not-span_fits.true))

pub returns-then-not-span_fits-2 : goal.returns-then-not-span_fits-2
returns-then-not-span_fits-2 c = sym (other_second _ _ _ _ (sym (first (goal.at.returns-then-not-span_fits-2 c).After-span_fits) ∙ c.if-not-span_fits.false) (sym (second (goal.at.returns-then-not-span_fits-2 c).After-span_fits-2) ∙ c.if-not-span_fits-2.true))

pub returns : goal.returns
returns c =
    let from = c.clip_word-from.ensures in
    let to = c.clip_word-to.ensures in
    let a = c.args in
    let h = c.if-not-span_fits.false in
    let w = span_within a.text.now _ _ (sym c.span_fits.ensures ∙ h) in
    let e = same_bytes_lem a.text.now a.words.now a.a a.b (sym (first (goal.at.returns c).After-span_fits) ∙ h) (sym (second (goal.at.returns c).After-span_fits-2) ∙ c.if-not-span_fits-2.false) in
    rw (e, ← from, ← to, ← c.clip_word-start.ensures, ← c.clip_word-end.ensures) (c.spells.ensures ∙ spells_shown _ _ _ w.0 w.1 _)
