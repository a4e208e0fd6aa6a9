-- The binary32 of a length, as IEEE 754 rounds (`lib.Ieee`), and what "nearest" says in whole numbers alone.
-- Assumes nothing.
use Rattle.std.specs.Prelude.{◌≡◌, false, ℕ, ◌+◌, ◌-◌, ◌*◌, ◌%◌, ◌^◌, ◌≤◌, ◌<◌, Float}
use Rattle.std.specs.Float.{binary32}
use Rattle.std.specs.Float.Ieee.{round, to_bits, of_bits}
use Rattle.std.specs.Float.Ieee.Exact.{HasValue}
use Rattle.tables.specs.Layout.{second}

-- "The binary32 is the nearest, ties to an even last bit": ns / 10^9 seconds, rounded once.
unfoldable pub seconds_of : ℕ → Float
unfolding round
seconds_of ns = round binary32 false ns second

-- Word 3 of a clip, "its binary32 bits".
unfoldable pub seconds_bits : ℕ → ℕ
unfolding seconds_of to_bits
seconds_bits ns = to_bits binary32 (seconds_of ns)

-- ---- "nearest", in whole numbers: a binary32 that is not negative is q * 2^j times the smallest, 2^-149, with q below 2^24

-- The bits w stand for v times the smallest, v / 2^149.
abbrev pub StandsFor : ℕ → ℕ → Type 0
StandsFor w v = HasValue (of_bits binary32 w) false v (2 ^ 149)

abbrev pub dist : ℕ → ℕ → ℕ
dist a b = a - b + (b - a)

-- How far v / 2^149 seconds are from ns / 10^9 seconds, times 10^9 * 2^149 so that it is whole.
abbrev pub off : ℕ → ℕ → ℕ
off ns v = dist (v * second) (ns * 2 ^ 149)

-- "The binary32 is the nearest, ties to an even last bit": w stands for a value; no other binary32 is nearer to ns; where another is as near, w's last bit is 0.
pub record Nearest (ns w : ℕ) : Type 0 where
  pub value : ℕ
  pub stands : StandsFor w value
  pub none_nearer : (q j : ℕ) → q < 2 ^ 24 → off ns value ≤ off ns (q * 2 ^ j)
  pub ties_even : (q j : ℕ) → q < 2 ^ 24 → off ns (q * 2 ^ j) ≡ off ns value → (q * 2 ^ j ≡ value → ⊥) → w % 2 ≡ 0
