-- The way in, for a head that is handed over as its eleven numbers: which numbers a head has, and the head that they are of.
-- Rule 9 refuses the others: a mark or "present" that is neither 0 nor 1, a type above 3, a version beside an absent one, a span beside a type that has none.
-- Assumes nothing.
use Rattle.std.specs.Prelude.{ℕ, zero, suc, Bool, true, false, cond, ◌&&◌, ◌||◌, leb, eqb}
use Rattle.std.proofs.Math.Option.{Option, none, some}
use Rattle.text.specs.Nom.{span}
use Rattle.text.specs.BasicTags.{PlaylistType, event, vod, other}
use Rattle.assembly.specs.Assembly.{Head, head}
use Rattle.ledgerfern.specs.declared.Head as headᵈ

-- ---- which numbers a head has
abbrev pub is_mark : ℕ → Bool
is_mark n = leb n 1

-- whether there is one, and the version: an absent one is 0
unfoldable pub is_version : ℕ → ℕ → Bool
is_version present version = is_mark present && (eqb present 1 || eqb version 0)

-- the type's number, start and end: only another text has a span
unfoldable pub is_type : ℕ → ℕ → ℕ → Bool
is_type number start end = leb number 3 && (eqb number 3 || (eqb start 0 && eqb end 0))

unfoldable pub is_head : headᵈ.Head → Bool
is_head h =
    is_version h.version_present h.version
    && (is_type h.playlist_type h.type_start h.type_end
    && (is_mark h.end_list
    && (is_mark h.i_frames_only
    && is_mark h.independent_segments)))

-- ---- the head that they are of
abbrev pub mark_from : ℕ → Bool
mark_from zero = false
mark_from (suc n) = true

abbrev pub version_from : ℕ → ℕ → Option ℕ
version_from zero version = none
version_from (suc n) version = some version

abbrev pub type_from : ℕ → ℕ → ℕ → Option PlaylistType
type_from zero start end = none
type_from (suc zero) start end = some event
type_from (suc (suc zero)) start end = some vod
type_from (suc (suc (suc n))) start end = some (other (span start end))

abbrev pub head_from : headᵈ.Head → Head
head_from h =
    head (version_from h.version_present h.version) h.target_duration h.media_sequence h.discontinuity_sequence
    (type_from h.playlist_type h.type_start h.type_end) (mark_from h.end_list) (mark_from h.i_frames_only) (mark_from h.independent_segments)

unfoldable pub head_of : headᵈ.Head → Option Head
head_of h = cond (is_head h) (some (head_from h)) none
