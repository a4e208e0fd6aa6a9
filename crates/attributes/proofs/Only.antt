-- No second answer meets a contract: from what an answer says there is a way back to it, as in text's `Only`. Assumes nothing.
use Prim.Native.Nat.{ℕ}
use mathlib.Core.Path.{◌≡◌, refl, sym, ◌∙◌, ap}
use mathlib.Core.List.{List}
use mathlib.Core.Option.{Option}
use Rattle.text.specs.Util.{ByteRange}
use Rattle.std.specs.Prelude.{Option as Perhaps}
use Rattle.text.proofs.Only.{Only, only_by, perhaps_back, perhaps_back_lem, perhaps_only, res_only, span_back}
use Rattle.leaves.specs.declared.util.ByteRange as rangeᵈ
use Rattle.leaves.specs.Answers.{byte_range_of}
use Rattle.leaves.proofs.Only.{byte_range_back, byte_range_back_lem}
use Rattle.attributes.specs.declared.pair.QuotedOrUnquoted as valueᵈ
use Rattle.attributes.specs.declared.pair.QuotedOrUnquoted.TheVariants as valueᵛ
use Rattle.attributes.specs.declared.pair.Pair as pairᵈ
use Rattle.attributes.specs.declared.ext_map.Map as mapᵈ
use Rattle.attributes.specs.Pairs.{QuotedOrUnquoted, bare, in_quotes, Pair, pair}
use Rattle.attributes.specs.Held.{LastOfEach}
use Rattle.attributes.specs.ExtMap.{Map, ext_map}
use Rattle.attributes.specs.Answers.{value_of, value_res, pair_of, pair_res, attr_of, opt_range_of, map_of, map_res}

-- ---- values and pairs
abbrev pub value_back : QuotedOrUnquoted → valueᵈ.QuotedOrUnquoted
value_back (bare s) = valueᵛ.Unquoted (span_back s)
value_back (in_quotes s) = valueᵛ.Quoted (span_back s)

pub value_back_lem : (v : valueᵈ.QuotedOrUnquoted) → value_back (value_of v) ≡ v
value_back_lem (valueᵛ.Unquoted s) = refl
value_back_lem (valueᵛ.Quoted s) = refl

pub value_only : Only value_of
value_only = only_by value_of value_back value_back_lem

pub value_res_only : Only value_res
value_res_only = res_only value_of value_back value_back_lem

abbrev pair_back : Pair → pairᵈ.Pair
pair_back (pair left right) = record { name = span_back left; value = value_back right }

pair_back_lem : (p : pairᵈ.Pair) → pair_back (pair_of p) ≡ p
pair_back_lem p = ap (λ (v : valueᵈ.QuotedOrUnquoted). record { name = p.name; value = v }) (value_back_lem p.value)

pub pair_only : Only pair_of
pair_only = only_by pair_of pair_back pair_back_lem

pub pair_res_only : Only pair_res
pair_res_only = res_only pair_of pair_back pair_back_lem

-- ---- lists
pub attr_only : Only attr_of
attr_only = perhaps_only value_of value_back value_back_lem

-- what a walk answers, and what it leaves in the lent words
pub last_of_each_only : {text : List ℕ} {at : ℕ} {names sizes held₀ held held' : List ℕ} {end end' : ℕ}
    → LastOfEach text at names sizes held₀ held end → LastOfEach text at names sizes held₀ held' end'
    → (end ≡ end') × (held ≡ held')
last_of_each_only p q = (p.ends ∙ sym q.ends, p.holds ∙ sym q.holds)

-- ---- maps
abbrev map_range_back : Option ByteRange → Perhaps rangeᵈ.ByteRange
map_range_back = perhaps_back byte_range_of byte_range_back byte_range_back_lem

map_range_back_lem : (r : Perhaps rangeᵈ.ByteRange) → map_range_back (opt_range_of r) ≡ r
map_range_back_lem = perhaps_back_lem byte_range_of byte_range_back byte_range_back_lem

abbrev pub map_back_lem : Map → mapᵈ.Map
map_back_lem (ext_map uri range list) = record { uri = span_back uri; byte_range = map_range_back range; list = span_back list }

pub map_back : (m : mapᵈ.Map) → map_back_lem (map_of m) ≡ m
map_back m = ap (λ (r : Perhaps rangeᵈ.ByteRange). record { uri = m.uri; byte_range = r; list = m.list }) (map_range_back_lem m.byte_range)

pub map_only : Only map_of
map_only = only_by map_of map_back_lem map_back

pub map_res_only : Only map_res
map_res_only = res_only map_of map_back_lem map_back
