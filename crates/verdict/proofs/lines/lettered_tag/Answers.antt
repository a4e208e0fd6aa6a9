-- `lines::lettered_tag`: the rows with the letter that stands at place 7 have the answer (`told_having`, `told_none`). Assumes nothing.
use Prim.Native.Char.{Char, code}
use mathlib.Core.Path.{◌≡◌, refl, sym, ◌∙◌}
use mathlib.Core.Bool.{Bool}
use Rattle.text.specs.Nom.{Res, bytes, or_none, opt, alt}
use Rattle.verdict.specs.Verdict.{master_kind, media_kind}
use Rattle.verdict.specs.Inside.Letters.{rows, dashed, lettered}
use Rattle.verdict.proofs.Letters.{tried, by_byte, told_having, told_none}
use Rattle.verdict.proofs.lines.lettered_tag.Goals as goal
use Rattle.verdict.proofs.lines.lettered_tag.Goals.{After-byte_at}

-- the rows that begin with `#EXT-X-` are enough
enough : (c : After-byte_at) → let a = c.args in tried a.text.now a.at dashed ≡ tried a.text.now a.at rows
enough c = by_byte _ _ 4 _ c.requires rows refl

-- and those of them with letter x
told : (c : After-byte_at) (x : Char) → c.byte_at.result ≡ code x → {r : Res Bool} → let a = c.args in
    r ≡ lettered x a.text.now a.at → or_none r a.at ≡ opt (alt master_kind media_kind) a.text.now a.at
told c x is e = told_having _ _ 7 dashed refl (enough c) (code x) (sym c.byte_at.ensures ∙ is) _ e

pub returns-in-83 : goal.returns-in-83
returns-in-83 c = told (goal.at.returns-in-83 c).After-byte_at "S" c.in-83.is c.stream_or_session_tag.ensures

pub returns-in-73 : goal.returns-in-73
returns-in-73 c = told (goal.at.returns-in-73 c).After-byte_at "I" c.in-73.is c.frames_tag.ensures

pub returns-in-77 : goal.returns-in-77
returns-in-77 c = told (goal.at.returns-in-77 c).After-byte_at "M" c.in-77.is c.media_or_map_tag.ensures

pub returns-in-68 : goal.returns-in-68
returns-in-68 c = told (goal.at.returns-in-68 c).After-byte_at "D" c.in-68.is c.break_or_dates_tag.ensures

pub returns-in-80 : goal.returns-in-80
returns-in-80 c = told (goal.at.returns-in-80 c).After-byte_at "P" c.in-80.is c.type_or_time_tag.ensures

pub returns-in-84 : goal.returns-in-84
returns-in-84 c = told (goal.at.returns-in-84 c).After-byte_at "T" c.in-84.is c.named.ensures

pub returns-in-69 : goal.returns-in-69
returns-in-69 c = told (goal.at.returns-in-69 c).After-byte_at "E" c.in-69.is c.named-in-69.ensures

pub returns-in-66 : goal.returns-in-66
returns-in-66 c = told (goal.at.returns-in-66 c).After-byte_at "B" c.in-66.is c.named-in-66.ensures

pub returns-in-75 : goal.returns-in-75
returns-in-75 c = told (goal.at.returns-in-75 c).After-byte_at "K" c.in-75.is c.named-in-75.ensures

pub returns-in_default : goal.returns-in_default
returns-in_default c = told_none _ _ 7 dashed refl (enough (goal.at.returns-in_default c).After-byte_at) _ (sym c.byte_at.ensures) (bytes "KBETPDMIS") c.in_default.in_default-own.rest refl
