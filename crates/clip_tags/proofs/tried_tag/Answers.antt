-- `tried_tag`: the tags of the letter that stands at place 7 have the answer (`by_byte`); where no tag has that letter, none (`no_byte`). Only `map_tag`
-- writes to the memory. Assumes nothing.
use Prim.Native.Nat.{ℕ}
use mathlib.Core.Path.{◌≡◌, refl, sym, ◌∙◌}
use native.Mathlib.Omega.{arith}
use Rattle.tags.specs.Tags.{extinf_row, byte_range_row, key_row, map_row, program_date_time_row, segment_rows, matched}
use Rattle.tags.proofs.Matched.{one_row}
use Rattle.tags.proofs.Letters.{with_byte_lem, bytes_at, by_byte, no_byte}
use Rattle.clip_tags.proofs.tried_tag.Goals as goal
use Rattle.clip_tags.proofs.tried_tag.Goals.{After-byte_at}

-- the tags of letter x have the answer
chosen : (c : After-byte_at) {x : ℕ} → c.byte_at.result ≡ x → let a = c.args in matched (with_byte_lem 7 x segment_rows) a.text.now a.at ≡ matched segment_rows a.text.now a.at
chosen c is = by_byte _ _ 7 (omega arith) c.byte_at.ensures is segment_rows refl

pub returns-in-58 : goal.returns-in-58
returns-in-58 c kept = (c.extinf_line.ensures ∙ one_row _ _ extinf_row ∙ chosen (goal.at.returns-in-58 c).After-byte_at c.in-58.is, kept)

pub returns-in-66 : goal.returns-in-66
returns-in-66 c kept = (c.byte_range_tag.ensures ∙ one_row _ _ byte_range_row ∙ chosen (goal.at.returns-in-66 c).After-byte_at c.in-66.is, kept)

pub returns-in-68 : goal.returns-in-68
returns-in-68 c kept = (c.break_or_dates_tag.ensures ∙ chosen (goal.at.returns-in-68 c).After-byte_at c.in-68.is, kept)

pub returns-in-75 : goal.returns-in-75
returns-in-75 c kept = (c.key_tag.ensures ∙ one_row _ _ key_row ∙ chosen (goal.at.returns-in-75 c).After-byte_at c.in-75.is, kept)

pub returns-in-77 : goal.returns-in-77
returns-in-77 c kept =
    let read = c.map_tag.ensures kept in
    (read.0 ∙ one_row _ _ map_row ∙ chosen (goal.at.returns-in-77 c).After-byte_at c.in-77.is, read.1)

pub returns-in-80 : goal.returns-in-80
returns-in-80 c kept = (c.program_date_time_tag.ensures ∙ one_row _ _ program_date_time_row ∙ chosen (goal.at.returns-in-80 c).After-byte_at c.in-80.is, kept)

pub returns-in_default : goal.returns-in_default
returns-in_default c kept = (sym (no_byte _ _ 7 (omega arith) c.byte_at.ensures (bytes_at 7 segment_rows) c.in_default.in_default-own.rest segment_rows refl refl), kept)
