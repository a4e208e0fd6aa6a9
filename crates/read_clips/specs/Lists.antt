-- What programs say of a list that was read. Assumes nothing.
use Rattle.std.specs.Prelude.{ℕ, ◌+◌, List, [], ◌∷◌}
use Rattle.tables.specs.Refusal.{Answer, refused, given}
use Rattle.assembly.specs.Assembly.{Clip}
use Rattle.media.specs.Calls.{Read}

-- a clip's length in ns, and all together
abbrev pub ns_of : Clip → ℕ
ns_of c = c.segment.length

unfoldable pub total_of : List Clip → ℕ
total_of [] = 0
total_of (c ∷ clips) = ns_of c + total_of clips

-- the reader's refusals come first
abbrev pub once_read : {A : Type 0} → Answer Read → Answer A → Answer A
once_read (refused r p) answer = refused r p
once_read (given a) answer = answer
