-- Numbers and lengths by computation over the rules. Assumes nothing.
use Rattle.std.specs.Prelude.{◌≡◌, refl, [], ◌∷◌, map, ◌-◌, ◌^◌, length}
use Rattle.text.specs.Nom.{bytes}
use Rattle.digits.specs.Digits.{digits_by, number_text, fraction_by, fraction_text, length_text}

-- 0, 10 and 907; the largest number has twenty digits
numbers : map number_text (0 ∷ 10 ∷ 907 ∷ []) ≡ bytes "0" ∷ bytes "10" ∷ bytes "907" ∷ []
unfolding number_text digits_by
numbers = refl

largest : length (number_text (2 ^ 64 - 1)) ≡ 20
unfolding number_text digits_by
largest = refl

-- no trailing zeros, no point without a fraction, no zero lost behind the point
lengths : map length_text (0 ∷ 9000000000 ∷ 9009000000 ∷ 100000000 ∷ 1 ∷ 999999999999999999 ∷ [])
    ≡ bytes "0" ∷ bytes "9" ∷ bytes "9.009" ∷ bytes "0.1" ∷ bytes "0.000000001" ∷ bytes "999999999.999999999" ∷ []
unfolding length_text number_text digits_by fraction_text fraction_by
lengths = refl
