-- Worked examples, by computation. Assumes nothing.
use Rattle.std.specs.Prelude.{◌≡◌, refl, true, false}
use Rattle.std.proofs.Math.Option.{none}
use Rattle.text.specs.Nom.{span, bytes, begins, tagged}
use Rattle.lengths.specs.Duration.{ns, extinf}
use Rattle.tags.specs.Examples.{taken}
use Rattle.steps.specs.Inside.Common.{uri_kind, extinf_kind, other_kind, kind_at, takes_uri, takes_extinf, takes_other, common_in}

-- by its first bytes: an EXTINF has its colon, and where the text ends there is no line
of_kind : (kind_at (bytes "a") 0 ≡ uri_kind) × (kind_at (bytes "#EXTINF:9") 0 ≡ extinf_kind) × (kind_at (bytes "#EXTINF") 0 ≡ other_kind) × (kind_at (bytes "") 0 ≡ other_kind)
unfolding tagged begins
of_kind = (refl, refl, refl, refl)

-- as they are taken; but a URI that begins with `#` is other
of_common : (common_in false (taken "a\n") ≡ takes_uri (span 0 1) 2) × (common_in true (taken "#EXTINF:9,\n") ≡ takes_extinf (extinf (ns 9000000000) none) 11) × (common_in true (taken "#a") ≡ takes_other)
unfolding taken
of_common = (refl, refl, refl)
