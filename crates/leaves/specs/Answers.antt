-- What each answer of the code says, in the words of the rules. Assumes nothing.
use Rattle.std.specs.Prelude.{ℕ, Result, Option as Perhaps}
use Rattle.std.proofs.Math.Option.{Option}
use Rattle.text.specs.Why.{no_digits}
use Rattle.text.specs.Nom.{Res, fail, ok}
use Rattle.text.specs.Util.{Parsed, fits, large, ByteRange, range}
use Rattle.text.specs.BasicTags.{ExtTag, ext, PlaylistType, event, vod, other}
use Rattle.text.specs.Answers.{span_of, perhaps, part_of, res_of}
use Rattle.text.specs.declared.Why as whyᵈ
use Rattle.leaves.specs.declared.util.Parsed as parsedᵈ
use Rattle.leaves.specs.declared.util.Parsed.TheVariants as parsedᵛ
use Rattle.leaves.specs.declared.util.ByteRange as rangeᵈ
use Rattle.leaves.specs.declared.basic_tags.ExtTag as extᵈ
use Rattle.leaves.specs.declared.basic_tags.PlaylistType as typeᵈ
use Rattle.leaves.specs.declared.basic_tags.PlaylistType.TheVariants as typeᵛ

abbrev pub parsed_of : parsedᵈ.Parsed → Res Parsed
parsed_of parsedᵛ.NoDigits = fail no_digits
parsed_of (parsedᵛ.TooLarge n) = ok large n
parsed_of (parsedᵛ.Value v n) = ok (fits v) n

abbrev pub offset_of : Perhaps ℕ → Option ℕ
offset_of = perhaps (λ o. o)

abbrev pub byte_range_of : rangeᵈ.ByteRange → ByteRange
byte_range_of r = range r.length (offset_of r.offset)

abbrev pub byte_range_res : Result (rangeᵈ.ByteRange × ℕ) whyᵈ.Why → Res ByteRange
byte_range_res = res_of byte_range_of

abbrev pub ext_tag_of : extᵈ.ExtTag → ExtTag
ext_tag_of e = ext (span_of e.tag) (part_of e.rest)

abbrev pub ext_tag_res : Result (extᵈ.ExtTag × ℕ) whyᵈ.Why → Res ExtTag
ext_tag_res = res_of ext_tag_of

abbrev pub type_of : typeᵈ.PlaylistType → PlaylistType
type_of typeᵛ.Event = event
type_of typeᵛ.Vod = vod
type_of (typeᵛ.Other s) = other (span_of s)

abbrev pub playlist_type_res : Result (typeᵈ.PlaylistType × ℕ) whyᵈ.Why → Res PlaylistType
playlist_type_res = res_of type_of
