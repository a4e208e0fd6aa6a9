-- What the digits at a place and the offset behind `@` come to, by where they end. Assumes nothing.
use Rattle.std.specs.Prelude.{ℕ, Bool, true, false}
use Rattle.std.proofs.Math.Option.{Option}
use Rattle.text.specs.Nom.{Res, ok}
use Rattle.leaves.specs.declared.util.Parsed as parsedᵈ
use Rattle.leaves.specs.declared.util.Parsed.TheVariants as parsedᵛ
use Rattle.leaves.specs.declared.util.Placed as placedᵈ
use Rattle.leaves.specs.Answers.{offset_of}

-- the value of digits that end at n, if there is one
abbrev pub pick_parsed : Bool → ℕ → ℕ → parsedᵈ.Parsed
pick_parsed true v n = parsedᵛ.Value v n
pick_parsed false v n = parsedᵛ.NoDigits

-- an offset that may be missing, as a rule that never fails
abbrev pub placed_of : placedᵈ.Placed → Res (Option ℕ)
placed_of p = ok (offset_of p.offset) p.end
