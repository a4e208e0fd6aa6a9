-- The same by what the face promises, in its numbers: `ledgerfern_read`, `ledgerfern_write` of the head, counts and tables that it gave, and
-- `ledgerfern_read` of what was written. Assumes nothing.
use Rattle.std.specs.Prelude.{◌≡◌, List, ℕ, take}
use Rattle.std.proofs.Math.Option.{some}
use Rattle.assembly.specs.Assembly.{Head}
use Rattle.ledgerfern.specs.declared.Read as readᵈ
use Rattle.ledgerfern.specs.declared.Written as writtenᵈ
use Rattle.ledgerfern.specs.Numbers.{ReadAs}
use Rattle.ledgerfern.specs.Heads.{head_of}
use Rattle.ledgerfern.specs.Write.{WriteAs}
use Rattle.roundtrip.specs.ByCalls.{Agree}

-- the three calls, the first two with number 0
pub record FaceCalls
    (text clips₀ tags₀ clips tags : List ℕ) (r : readᵈ.Read)
    (out₀ out : List ℕ) (s : writtenᵈ.Written)
    (clips₁ tags₁ clips' tags' : List ℕ) (r' : readᵈ.Read) : Type 0 where
  pub reads : ReadAs text clips₀ tags₀ clips tags r
  pub accepted : r.number ≡ 0
  pub writes : WriteAs text clips r.clips tags r.tags r.head out₀ out s
  pub wrote : s.number ≡ 0
  pub reads_again : ReadAs (take s.length out) clips₁ tags₁ clips' tags' r'

-- what the last of them gives: number 0, the same counts, and a stopping place at the end of what was written; and the tables agree, with the heads that the
-- numbers are of
pub record FaceComesBack (text clips tags : List ℕ) (r : readᵈ.Read) (out : List ℕ) (s : writtenᵈ.Written) (clips' tags' : List ℕ) (r' : readᵈ.Read) : Type 0 where
  pub accepted : r'.number ≡ 0
  pub clip_count : r'.clips ≡ r.clips
  pub tag_count : r'.tags ≡ r.tags
  pub stop_place : r'.stop ≡ s.length
  pub head : Head
  pub head_of_lem : head_of r.head ≡ some head
  pub head' : Head
  pub head_of' : head_of r'.head ≡ some head'
  pub agree : Agree r.clips r.tags text head clips tags (take s.length out) head' clips' tags'
