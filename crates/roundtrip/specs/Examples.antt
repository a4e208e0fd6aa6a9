-- The premises and the stopping place, by computation. Assumes nothing.
use Rattle.std.specs.Prelude.{ℕ, ◌≡◌, refl, true, false, List, [], ◌∷◌, map}
use Rattle.std.proofs.Math.Option.{none}
use Rattle.text.specs.Nom.{span, bytes, begins, tagged, run, run_end}
use Rattle.text.specs.Util.{consume_line}
use Rattle.text.specs.BasicTags.{ext}
use Rattle.text.specs.Spans.{same_all}
use Rattle.assembly.specs.Assembly.{segment, clip}
use Rattle.roundtrip.specs.Premises.{plain_uri, not_named_map}
use Rattle.roundtrip.specs.Stops.{at_lone_cr, Stops, lone}

abbrev text : List ℕ
text = bytes "#a,bX-MAPX-MAPS"

-- `#a`, `,b`, `a,b`
uris : map (λ u. plain_uri text (clip u (segment 0 none none false none) 0 0)) (span 0 2 ∷ span 2 4 ∷ span 1 4 ∷ []) ≡ false ∷ false ∷ true ∷ []
unfolding begins
uris = refl

-- `X-MAP`, `X-MAPS`, `X-MA`
names : map (λ n. not_named_map text (ext n none)) (span 4 9 ∷ span 9 15 ∷ span 4 8 ∷ []) ≡ false ∷ true ∷ true ∷ []
unfolding same_all
names = refl

-- 01: M`a\rb\n`, "no clip, stopped at 8": `a` begins there, and a lone CR ends its line
at_cr : Stops (bytes "#EXTM3U\na\rb\n") 8
unfolding consume_line tagged begins run_end run
at_cr = lone refl refl

-- a CR with its LF is none, nor is the text's end
not_lone : at_lone_cr (bytes "#EXTM3U\na\r\nb\n") 8 ∷ at_lone_cr (bytes "#EXTM3U\na") 8 ∷ [] ≡ false ∷ false ∷ []
unfolding tagged begins run_end run
not_lone = refl
