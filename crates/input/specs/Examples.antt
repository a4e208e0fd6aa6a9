-- Numbers by computation over the rule. Assumes nothing.
use Rattle.std.specs.Prelude.{◌≡◌, refl, [], ◌∷◌, ◌-◌, ◌^◌, replicate}
use Rattle.input.specs.Numbers.{number_at}

-- the lowest byte first
two_bytes : number_at 2 (9 ∷ 1 ∷ 2 ∷ 9 ∷ []) 1 ≡ 513
unfolding number_at
two_bytes = refl

largest : number_at 8 (replicate 8 255) 0 ≡ 2 ^ 64 - 1
unfolding number_at
largest = refl
