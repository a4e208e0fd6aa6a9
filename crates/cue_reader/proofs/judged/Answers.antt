-- `judged`: each way out is a row of 02's order, or passes its front. Assumes nothing.
use native.Mathlib.Omega.{arith}
use mathlib.Core.Path.{sym, ap, ◌∙◌}
use Rattle.tables.specs.Refusal.{given}
use Rattle.cue_file.specs.Format.{version1}
use Rattle.cue_file.proofs.Judged.{fits_exact, judged_front, judged_19, judged_20, judged_21, judged_22}
use Rattle.cue_reader.proofs.judged.Goals as goal

pub returns-then-file-lt-TRAILER_WIDTH-clause-result_value : goal.returns-then-file-lt-TRAILER_WIDTH-clause-result_value
returns-then-file-lt-TRAILER_WIDTH-clause-result_value c = sym (judged_19 version1 _ _ c.if-file-lt-TRAILER_WIDTH.true)

pub returns-then-two_at-ne-VERSION_1-clause-result_value : goal.returns-then-two_at-ne-VERSION_1-clause-result_value
returns-then-two_at-ne-VERSION_1-clause-result_value c = sym (judged_20 version1 _ _ c.if-file-lt-TRAILER_WIDTH.false (λ e. c.if-two_at-ne-VERSION_1.true (c.two_at.ensures.0 ∙ e)))

pub returns-then-not-fits_exactly-clause-result_value : goal.returns-then-not-fits_exactly-clause-result_value
returns-then-not-fits_exactly-clause-result_value c =
    let v = sym c.two_at.ensures.0 ∙ c.if-two_at-ne-VERSION_1.false in
    let x = sym c.fits_exactly.ensures ∙ c.if-not-fits_exactly.true in
    sym (judged_21 version1 _ _ c.if-file-lt-TRAILER_WIDTH.false v x)

pub starts_keep-requires : goal.starts_keep-requires
starts_keep-requires c =
    let x = (fits_exact version1 _ (sym c.fits_exactly.ensures ∙ c.if-not-fits_exactly.false)).end in
    omega (arith, x, c.two_at-clips.ensures.0)

pub returns-then-not-starts_keep-clause-result_value : goal.returns-then-not-starts_keep-clause-result_value
returns-then-not-starts_keep-clause-result_value c =
    let v = sym c.two_at.ensures.0 ∙ c.if-two_at-ne-VERSION_1.false in
    let x = sym c.fits_exactly.ensures ∙ c.if-not-fits_exactly.false in
    let s = sym c.starts_keep.ensures ∙ c.if-not-starts_keep.true in
    let k = c.two_at-clips in
    sym (judged_22 version1 _ _ c.if-file-lt-TRAILER_WIDTH.false v x (rw k.ensures.0 at s))

pub returns-clause-result_value : goal.returns-clause-result_value
returns-clause-result_value c =
    let v = sym c.two_at.ensures.0 ∙ c.if-two_at-ne-VERSION_1.false in
    let x = sym c.fits_exactly.ensures ∙ c.if-not-fits_exactly.false in
    let s = sym c.starts_keep.ensures ∙ c.if-not-starts_keep.false in
    let long = c.if-file-lt-TRAILER_WIDTH.false in
    let k = c.two_at-clips in
    ap given k.ensures.0 ∙ sym ((judged_front version1 _).on _ (record { long = long; version = v; fits = x; starts = rw k.ensures.0 at s }))
