-- What each answer of the code says, in the words of the rules. Assumes nothing.
use Rattle.std.specs.Prelude.{ℕ, Result, Option as Perhaps}
use Rattle.std.proofs.Math.Option.{Option}
use Rattle.text.specs.declared.Why as whyᵈ
use Rattle.text.specs.Nom.{Res}
use Rattle.text.specs.Util.{ByteRange}
use Rattle.text.specs.Answers.{span_of, perhaps, res_of}
use Rattle.leaves.specs.declared.util.ByteRange as rangeᵈ
use Rattle.leaves.specs.Answers.{byte_range_of}
use Rattle.attributes.specs.declared.pair.QuotedOrUnquoted as valueᵈ
use Rattle.attributes.specs.declared.pair.QuotedOrUnquoted.TheVariants as valueᵛ
use Rattle.attributes.specs.declared.pair.Pair as pairᵈ
use Rattle.attributes.specs.declared.ext_map.Map as mapᵈ
use Rattle.attributes.specs.Pairs.{QuotedOrUnquoted, bare, in_quotes, Pair, pair}
use Rattle.attributes.specs.ExtMap.{Map, ext_map}

abbrev pub value_of : valueᵈ.QuotedOrUnquoted → QuotedOrUnquoted
value_of (valueᵛ.Unquoted s) = bare (span_of s)
value_of (valueᵛ.Quoted s) = in_quotes (span_of s)

abbrev pub value_res : Result (valueᵈ.QuotedOrUnquoted × ℕ) whyᵈ.Why → Res QuotedOrUnquoted
value_res = res_of value_of

abbrev pub pair_of : pairᵈ.Pair → Pair
pair_of p = pair (span_of p.name) (value_of p.value)

abbrev pub pair_res : Result (pairᵈ.Pair × ℕ) whyᵈ.Why → Res Pair
pair_res = res_of pair_of

abbrev pub attr_of : Perhaps valueᵈ.QuotedOrUnquoted → Option QuotedOrUnquoted
attr_of = perhaps value_of

abbrev pub opt_range_of : Perhaps rangeᵈ.ByteRange → Option ByteRange
opt_range_of = perhaps byte_range_of

abbrev pub map_of : mapᵈ.Map → Map
map_of m = ext_map (span_of m.uri) (opt_range_of m.byte_range) (span_of m.list)

abbrev pub map_res : Result (mapᵈ.Map × ℕ) whyᵈ.Why → Res Map
map_res = res_of map_of
