-- A number and a length as text (01, "Writing"). Assumes nothing.
use Rattle.std.specs.Prelude.{cond, List, [], ◌∷◌, ◌++◌, ℕ, suc, zero, ◌+◌, ◌/◌, ◌%◌, ◌^◌, ltb, eqb}
use Rattle.tables.specs.Layout.{second}

-- the digits of n, with at most f of them before the last
unfoldable pub digits_by : ℕ → ℕ → List ℕ
digits_by zero n = (48 + n % 10) ∷ []
digits_by (suc f) n = cond (ltb n 10) [] (digits_by f (n / 10)) ++ (48 + n % 10) ∷ []

-- "A number is written without leading zeros": a 64-bit number has at most twenty digits
unfoldable pub number_text : ℕ → List ℕ
number_text n = digits_by 20 n

-- the digits of a fraction that k digits can write, the highest first, as long as something is left: "without trailing zeros of the fraction"
unfoldable pub fraction_by : ℕ → ℕ → List ℕ
fraction_by zero f = []
fraction_by (suc k) f = cond (eqb f 0) [] ((48 + f / 10 ^ k) ∷ fraction_by k (f % 10 ^ k))

-- "and without a point if the fraction is zero"
unfoldable pub fraction_text : ℕ → List ℕ
fraction_text f = cond (eqb f 0) [] (46 ∷ fraction_by 9 f)

-- a length in ns, as seconds
unfoldable pub length_text : ℕ → List ℕ
length_text ns = number_text (ns / second) ++ fraction_text (ns % second)
