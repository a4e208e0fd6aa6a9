-- Where nothing is kept, all of it is true. Assumes nothing.
use Prim.Native.Nat.{ℕ}
use mathlib.Core.Path.{◌≡◌}
use mathlib.Core.Bool.{false≢true}
use mathlib.Core.List.{List}
use mathlib.Core.Option.{none, some}
use native.Mathlib.Omega.{arith}
use lib.ListN.{replicate}
use Rattle.attributes.specs.Pairs.{QuotedOrUnquoted}
use Rattle.chains.specs.Inside.Kept.{RemembersMaps}

no_value : (v : QuotedOrUnquoted) → none ≡ some v → ⊥
no_value v z = let w : ◌≡◌ {A = ℕ} 0 1 = cc in omega arith

pub nothing_kept : (text : List ℕ) → RemembersMaps text (replicate 30 0)
nothing_kept text =
    record {
      first = λ v q. absurd (no_value v q);
      second = λ v q. absurd (no_value v q);
      fails = record { dead = λ i q. absurd (false≢true q); none = λ i q. absurd (false≢true q) };
    }
