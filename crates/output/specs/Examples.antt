-- Parts and a full buffer by computation over the rules. Assumes nothing.
use Rattle.std.specs.Prelude.{◌≡◌, refl, [], ◌∷◌, map, ◌-◌, length, replicate}
use Rattle.output.specs.Waiting.{room, with_byte, part}

-- two bytes of five; an end past the text, and a start past the end, are no part
parts : map (part (1 ∷ 2 ∷ 3 ∷ 4 ∷ 5 ∷ []) 1) (3 ∷ 6 ∷ 0 ∷ []) ≡ (2 ∷ 3 ∷ []) ∷ [] ∷ [] ∷ []
unfolding part
parts = refl

-- the last byte that has room waits beside the others; after it only the new one waits
fills : length (with_byte (replicate (room - 1) 0) 7) ≡ room
unfolding with_byte
fills = refl

starts_anew : with_byte (replicate room 0) 7 ≡ 7 ∷ []
unfolding with_byte
starts_anew = refl
