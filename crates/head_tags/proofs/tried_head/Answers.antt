-- `tried_head`: the tags of the letter that stands at place 7 have the answer (`by_byte`); where no tag has that letter, none (`no_byte`). Assumes nothing.
use Prim.Native.Nat.{ℕ}
use mathlib.Core.Path.{◌≡◌, refl, sym, ◌∙◌}
use native.Mathlib.Omega.{arith}
use Rattle.tags.specs.Tags.{version_row, target_duration_row, media_sequence_row, discontinuity_sequence_row, playlist_type_row, start_row, end_list_row, playlist_rows, matched}
use Rattle.tags.proofs.Matched.{one_row}
use Rattle.tags.proofs.Letters.{with_byte_lem, bytes_at, by_byte, no_byte}
use Rattle.head_tags.proofs.tried_head.Goals as goal
use Rattle.head_tags.proofs.tried_head.Goals.{After-byte_at}

-- the tags of letter x have the answer
chosen : (c : After-byte_at) {x : ℕ} → c.byte_at.result ≡ x → let a = c.args in matched (with_byte_lem 7 x playlist_rows) a.text.now a.at ≡ matched playlist_rows a.text.now a.at
chosen c is = by_byte _ _ 7 (omega arith) c.byte_at.ensures is playlist_rows refl

pub returns-in-86 : goal.returns-in-86
returns-in-86 c = c.version_tag.ensures ∙ one_row _ _ version_row ∙ chosen (goal.at.returns-in-86 c).After-byte_at c.in-86.is

pub returns-in-84 : goal.returns-in-84
returns-in-84 c = c.target_duration_tag.ensures ∙ one_row _ _ target_duration_row ∙ chosen (goal.at.returns-in-84 c).After-byte_at c.in-84.is

pub returns-in-77 : goal.returns-in-77
returns-in-77 c = c.media_sequence_tag.ensures ∙ one_row _ _ media_sequence_row ∙ chosen (goal.at.returns-in-77 c).After-byte_at c.in-77.is

pub returns-in-68 : goal.returns-in-68
returns-in-68 c = c.discontinuity_sequence_tag.ensures ∙ one_row _ _ discontinuity_sequence_row ∙ chosen (goal.at.returns-in-68 c).After-byte_at c.in-68.is

pub returns-in-80 : goal.returns-in-80
returns-in-80 c = c.playlist_type_tag.ensures ∙ one_row _ _ playlist_type_row ∙ chosen (goal.at.returns-in-80 c).After-byte_at c.in-80.is

pub returns-in-73 : goal.returns-in-73
returns-in-73 c = c.frames_or_apart_tag.ensures ∙ chosen (goal.at.returns-in-73 c).After-byte_at c.in-73.is

pub returns-in-83 : goal.returns-in-83
returns-in-83 c = c.start_tag.ensures ∙ one_row _ _ start_row ∙ chosen (goal.at.returns-in-83 c).After-byte_at c.in-83.is

pub returns-in-69 : goal.returns-in-69
returns-in-69 c = c.end_list_tag.ensures ∙ one_row _ _ end_list_row ∙ chosen (goal.at.returns-in-69 c).After-byte_at c.in-69.is

pub returns-in_default : goal.returns-in_default
returns-in_default c = sym (no_byte _ _ 7 (omega arith) c.byte_at.ensures (bytes_at 7 playlist_rows) c.in_default.in_default-own.rest playlist_rows refl refl)
