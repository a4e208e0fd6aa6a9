-- Records out of their words, by computation. Assumes nothing.
use Rattle.std.specs.Prelude.{ℕ, ◌≡◌, refl, true, false, List, [], ◌∷◌, ◌++◌}
use Rattle.std.proofs.Math.Option.{none, some}
use Rattle.text.specs.Nom.{span}
use Rattle.text.specs.Util.{range}
use Rattle.text.specs.BasicTags.{ext}
use Rattle.attributes.specs.ExtMap.{ext_map}
use Rattle.tables.specs.Table.{listed, has_flag}
use Rattle.assembly.specs.Assembly.{segment, clip}
use Rattle.records.specs.Records.{part_at, range_at, map_at, clip_at, tag_at, clips_at, tags_at}

-- a clip of 9 s with all that a record can have, and one of 0.1 s with a URI alone, whose run begins where the first one's ends
abbrev pub full : List ℕ
full = 10 ∷ 20 ∷ 9000000000 ∷ 0x41100000 ∷ 21 ∷ 25 ∷ 63 ∷ 500 ∷ 1000 ∷ 30 ∷ 40 ∷ 600 ∷ 0 ∷ 26 ∷ 45 ∷ 0 ∷ 2 ∷ []

abbrev pub bare : List ℕ
bare = 90 ∷ 100 ∷ 100000000 ∷ 0x3DCCCCCD ∷ 0 ∷ 0 ∷ 0 ∷ 0 ∷ 0 ∷ 0 ∷ 0 ∷ 0 ∷ 0 ∷ 0 ∷ 0 ∷ 2 ∷ 1 ∷ []

-- three unknown tags, the second without a rest
abbrev pub three : List ℕ
three = 50 ∷ 55 ∷ 56 ∷ 60 ∷ 61 ∷ 65 ∷ 0 ∷ 0 ∷ 66 ∷ 70 ∷ 71 ∷ 71 ∷ []

clips :
    clips_at (full ++ bare) 2
    ≡ clip (span 10 20) (segment 9000000000 (some (span 21 25)) (some (range 500 (some 1000))) true (some (ext_map (span 30 40) (some (range 600 (some 0))) (span 26 45)))) 0 2
    ∷ clip (span 90 100) (segment 100000000 none none false none) 2 1
    ∷ []
unfolding listed clip_at map_at range_at part_at has_flag
clips = refl

-- a rest that is empty but not at 0 is there
tags : tags_at three 3 ≡ ext (span 50 55) (some (span 56 60)) ∷ ext (span 61 65) none ∷ ext (span 66 70) (some (span 71 71)) ∷ []
unfolding listed tag_at part_at
tags = refl
