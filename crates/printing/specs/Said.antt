-- What a program says: what its input asks for, or why it is refused. Assumes nothing.
use Rattle.std.specs.Prelude.{◌≡◌, Option, Result, MatchResult, List, [], ℕ}
use Rattle.tables.specs.Refusal.{Answer, refused, given, number_of}
use Rattle.std.specs.Io.KnownBytes.{Appends}
use Rattle.output.specs.Puts.{Puts, Sends}
use Rattle.printing.specs.declared.streams.Streams.{Streams}
use Rattle.printing.specs.Lines.{refused_line}

-- the bytes of an answer
abbrev pub printed : Answer (List ℕ) → List ℕ
printed (refused r p) = refused_line (number_of r) p
printed (given bytes) = bytes

-- ---- "a refusal as one line on standard error, and nothing on standard output": the streams before and after
module _ {O E : Type 0} (s r : Streams O E) where
  -- what is said is put where it belongs, each byte of it, and the other stream is as it was
  abbrev pub SaysOne : Answer (List ℕ) → Type 0
  SaysOne (refused w p) = (r.out ≡ s.out) × Puts s.err r.err (refused_line (number_of w) p)
  SaysOne (given bytes) = Puts s.out r.out bytes × (r.err ≡ s.err)

  -- all that is said
  pub record SaidAs (answer : Answer (List ℕ)) : Type 0 where
    pub one : SaysOne answer

  -- the same of a program whose input may have failed to come: by how many bytes came, and then nothing is put
  abbrev pub SaysAs : {E : Type 0} → Result ℕ E → (ℕ → Answer (List ℕ)) → Type 0
  SaysAs came answer = MatchResult came (λ count. SaidAs (answer count)) (λ _. r ≡ s)

  -- ---- the writers, where it is known what they held before
  module _ (on_out : O → Option (List ℕ)) (on_err : E → Option (List ℕ)) where
    -- what is said goes behind what the one holds that it belongs to, and the other is not touched
    abbrev pub SendsOne : Answer (List ℕ) → Type 0
    SendsOne (refused w p) = (r.out ≡ s.out) × Sends on_err s.err r.err (refused_line (number_of w) p)
    SendsOne (given bytes) = Sends on_out s.out r.out bytes × (r.err ≡ s.err)

    pub record SendsAs (answer : Answer (List ℕ)) : Type 0 where
      pub one : SendsOne answer

-- ---- standard output and standard error, where it is known what they held before
-- the bytes of an answer for the one, and for the other
abbrev pub for_out : Answer (List ℕ) → List ℕ
for_out (refused r p) = []
for_out (given bytes) = bytes

abbrev pub for_err : Answer (List ℕ) → List ℕ
for_err (refused r p) = refused_line (number_of r) p
for_err (given bytes) = []

-- all of an answer is told: what they hold grows by its bytes
pub record Tells (out₀ out err₀ err : Option (List ℕ)) (answer : Answer (List ℕ)) : Type 0 where
  pub on_out : Appends out₀ out (for_out answer)
  pub on_err : Appends err₀ err (for_err answer)
