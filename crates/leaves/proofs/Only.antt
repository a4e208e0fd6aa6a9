-- An answer is determined: no second one meets a contract, since from what an answer says (its view) there is a way back to it. Assumes nothing.
use Prim.Native.Nat.{ℕ}
use mathlib.Core.Path.{◌≡◌, refl, ap}
use mathlib.Core.Option.{Option}
use Rattle.std.specs.Prelude.{Option as Perhaps}
use Rattle.text.specs.declared.Span as spanᵈ
use Rattle.text.specs.Nom.{Res, fail, ok}
use Rattle.text.specs.Util.{Parsed, fits, large, ByteRange, range}
use Rattle.text.specs.BasicTags.{ExtTag, ext, PlaylistType, event, vod, other}
use Rattle.text.proofs.Only.{Only, only_by, perhaps_back, perhaps_back_lem, res_only, span_back, part_back, part_back_lem}
use Rattle.leaves.specs.declared.util.Parsed as parsedᵈ
use Rattle.leaves.specs.declared.util.Parsed.TheVariants as parsedᵛ
use Rattle.leaves.specs.declared.util.ByteRange as rangeᵈ
use Rattle.leaves.specs.declared.basic_tags.ExtTag as extᵈ
use Rattle.leaves.specs.declared.basic_tags.PlaylistType as typeᵈ
use Rattle.leaves.specs.declared.basic_tags.PlaylistType.TheVariants as typeᵛ
use Rattle.leaves.specs.Answers.{parsed_of, offset_of, byte_range_of, byte_range_res, ext_tag_of, ext_tag_res, type_of, playlist_type_res}

-- ---- numbers and byte ranges
abbrev parsed_back : Res Parsed → parsedᵈ.Parsed
parsed_back (fail why) = parsedᵛ.NoDigits
parsed_back (ok large n) = parsedᵛ.TooLarge n
parsed_back (ok (fits v) n) = parsedᵛ.Value v n

pub parsed_only : Only parsed_of
parsed_only = only_by parsed_of parsed_back go
  where
    go : (r : parsedᵈ.Parsed) → parsed_back (parsed_of r) ≡ r
    go parsedᵛ.NoDigits = refl
    go (parsedᵛ.TooLarge n) = refl
    go (parsedᵛ.Value v n) = refl

abbrev offset_back : Option ℕ → Perhaps ℕ
offset_back = perhaps_back (λ (o : ℕ). o) (λ o. o) (λ o. refl)

offset_back_lem : (o : Perhaps ℕ) → offset_back (offset_of o) ≡ o
offset_back_lem = perhaps_back_lem (λ (o : ℕ). o) (λ o. o) (λ o. refl)

pub offset_only : Only offset_of
offset_only = only_by offset_of offset_back offset_back_lem

abbrev pub byte_range_back : ByteRange → rangeᵈ.ByteRange
byte_range_back (range n o) = record { length = n; offset = offset_back o }

pub byte_range_back_lem : (r : rangeᵈ.ByteRange) → byte_range_back (byte_range_of r) ≡ r
byte_range_back_lem r = ap (λ (o : Perhaps ℕ). record { length = r.length; offset = o }) (offset_back_lem r.offset)

pub byte_range_only : Only byte_range_of
byte_range_only = only_by byte_range_of byte_range_back byte_range_back_lem

pub byte_range_res_only : Only byte_range_res
byte_range_res_only = res_only byte_range_of byte_range_back byte_range_back_lem

-- ---- tags
abbrev pub ext_tag_back : ExtTag → extᵈ.ExtTag
ext_tag_back (ext name rest) = record { tag = span_back name; rest = part_back rest }

pub ext_tag_back_lem : (t : extᵈ.ExtTag) → ext_tag_back (ext_tag_of t) ≡ t
ext_tag_back_lem t = ap (λ (p : Perhaps spanᵈ.Span). record { tag = t.tag; rest = p }) (part_back_lem t.rest)

pub ext_tag_only : Only ext_tag_of
ext_tag_only = only_by ext_tag_of ext_tag_back ext_tag_back_lem

pub ext_tag_res_only : Only ext_tag_res
ext_tag_res_only = res_only ext_tag_of ext_tag_back ext_tag_back_lem

abbrev pub type_back : PlaylistType → typeᵈ.PlaylistType
type_back event = typeᵛ.Event
type_back vod = typeᵛ.Vod
type_back (other s) = typeᵛ.Other (span_back s)

pub type_back_lem : (t : typeᵈ.PlaylistType) → type_back (type_of t) ≡ t
type_back_lem typeᵛ.Event = refl
type_back_lem typeᵛ.Vod = refl
type_back_lem (typeᵛ.Other s) = refl

pub type_only : Only type_of
type_only = only_by type_of type_back type_back_lem

pub playlist_type_res_only : Only playlist_type_res
playlist_type_res_only = res_only type_of type_back type_back_lem
