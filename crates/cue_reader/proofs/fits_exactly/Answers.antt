-- `fits_exactly`: both places, then the sizes, which are compared by differences (`fits_past`, `fits_left`). Assumes nothing.
use mathlib.Core.Path.{sym, ◌∙◌}
use Rattle.cue_file.specs.Format.{version1}
use Rattle.cue_reader.proofs.Laws.{fits_not_records, fits_not_uris, fits_past, fits_left}
use Rattle.cue_reader.proofs.fits_exactly.Goals as goal

pub returns-then-four_at-ne0 : goal.returns-then-four_at-ne0
returns-then-four_at-ne0 c = sym (fits_not_records version1 _ _ c.requires.1 (λ e. c.if-four_at-ne0.true (c.four_at.ensures.0 ∙ e)))

pub returns-then-four_at-uris : goal.returns-then-four_at-uris
returns-then-four_at-uris c =
    let r = sym c.four_at.ensures.0 ∙ c.if-four_at-ne0.false in
    sym (fits_not_uris version1 _ _ c.requires.1 r (λ e. c.if-four_at-uris.true (c.four_at-2.ensures.0 ∙ e)))

pub returns-then-trailer-uris : goal.returns-then-trailer-uris
returns-then-trailer-uris c =
    let r = sym c.four_at.ensures.0 ∙ c.if-four_at-ne0.false in
    let u = sym c.four_at-2.ensures.0 ∙ c.if-four_at-uris.false in
    sym (fits_past version1 _ _ c.requires.1 r u c.if-trailer-uris.true)

pub returns : goal.returns
returns c =
    let r = sym c.four_at.ensures.0 ∙ c.if-four_at-ne0.false in
    let u = sym c.four_at-2.ensures.0 ∙ c.if-four_at-uris.false in
    let asked = c.requires in
    rw c.lengths.ensures.0 (fits_left version1 _ _ asked.1 r u asked.0 c.if-trailer-uris.false)
