-- What the round trip asks of a list that was read: "no URI begins with `#` or a comma and no unknown tag is named X-MAP". Assumes nothing.
use Rattle.std.specs.Prelude.{ℕ, Bool, true, not, ◌&&◌, List, [], ◌∷◌}
use Rattle.text.specs.Nom.{bytes, begins}
use Rattle.text.specs.BasicTags.{ExtTag, ext}
use Rattle.assembly.specs.Assembly.{Clip}
use Rattle.text.specs.Spans.{shown, same_bytes}

unfoldable pub all : {A : Type 0} → (A → Bool) → List A → Bool
all p [] = true
all p (a ∷ xs) = p a && all p xs

-- "no URI begins with `#` or a comma"
abbrev pub plain_uri : List ℕ → Clip → Bool
plain_uri text c = let u = c.uri in not (begins (bytes "#") (shown text u)) && not (begins (bytes ",") (shown text u))

unfoldable pub plain_uris : List ℕ → List Clip → Bool
plain_uris text clips = all (plain_uri text) clips

-- "no unknown tag is named X-MAP"
abbrev pub not_named_map : List ℕ → ExtTag → Bool
not_named_map text (ext name rest) = not (same_bytes (shown text name) (bytes "X-MAP"))

unfoldable pub none_named_map : List ℕ → List ExtTag → Bool
none_named_map text tags = all (not_named_map text) tags
