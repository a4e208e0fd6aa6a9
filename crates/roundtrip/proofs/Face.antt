-- The round trip by the promises of the face: its numbers are those of the library's answers, so that it is the round trip of the calls. Assumes nothing.
use Prim.Native.Nat.{ℕ}
use mathlib.Core.Path.{◌≡◌, refl, sym, ap, ◌∙◌}
use mathlib.Core.List.{List}
use mathlib.Core.Option.{some}
use native.Mathlib.Omega.{arith}
use lib.Dec.{leb}
use lib.ListN.{length, take}
use Rattle.tables.specs.Refusal.{output_short, Answer, refused, given, answer_number, or_refuse}
use Rattle.tables.proofs.Refusals.{number_above}
use Rattle.assembly.specs.Assembly.{Head}
use Rattle.media.specs.Calls.{Read, read, parse_media_playlist, ParsedAs}
use Rattle.playlist.specs.Calls.{write_to, WrittenAs}
use Rattle.ledgerfern.specs.declared.Read as readᵈ
use Rattle.ledgerfern.specs.declared.Head as headᵈ
use Rattle.ledgerfern.specs.declared.Written as writtenᵈ
use Rattle.ledgerfern.specs.Numbers.{read_numbers, written_numbers, ReadAs}
use Rattle.ledgerfern.specs.Heads.{head_of}
use Rattle.ledgerfern.specs.Write.{WriteAs}
use Rattle.ledgerfern.proofs.HeadNumbers.{head_in}
use Rattle.roundtrip.specs.RoundTrip.{written_of}
use Rattle.roundtrip.specs.ByCalls.{Asked, ComesBack}
use Rattle.roundtrip.specs.ByFace.{FaceCalls, FaceComesBack}
use Rattle.roundtrip.proofs.Calls.{by_calls, write_answers}

-- ---- number 0 is no refusal's
was_given : {A : Type 0} (x : Answer A) → answer_number x ≡ 0 → (a : A) × (x ≡ given a)
was_given (refused r p) e = absurd (omega (arith, number_above r))
was_given (given a) e = (a, refl)

-- ---- the numbers of a reading that was accepted
record Given (r : readᵈ.Read) (h : Head) (n m stop : ℕ) : Type 0 where
  number_is : r.number ≡ 0
  clips_are : r.clips ≡ n
  tags_are : r.tags ≡ m
  stop_is : r.stop ≡ stop
  head_is : head_of r.head ≡ some h

read_given : (r : readᵈ.Read) (h : Head) (n m stop : ℕ) → r ≡ read_numbers (given (read h n m stop)) → Given r h n m stop
read_given r h n m stop e = rw e (record { number_is = refl; clips_are = refl; tags_are = refl; stop_is = refl; head_is = head_in h })

-- ---- the promises in the words of the library's calls: the answer is its own view
abbrev itself : {A : Type 0} → Answer A → Answer A
itself x = x

abbrev parsed : List ℕ → List ℕ → List ℕ → Answer Read
parsed text clips tags = parse_media_playlist text (length clips) (length tags)

parsed_as : (text clips₀ tags₀ clips tags : List ℕ) (r : readᵈ.Read) → ReadAs text clips₀ tags₀ clips tags r → ParsedAs itself text clips₀ tags₀ clips tags (parsed text clips₀ tags₀)
parsed_as text clips₀ tags₀ clips tags r p = record { answered = refl; clips_after = p.clips_after; tags_after = p.tags_after }

written_as : (text clips : List ℕ) (n : ℕ) (tags : List ℕ) (m : ℕ) (k : headᵈ.Head) (h : Head) (out₀ out : List ℕ) (s : writtenᵈ.Written) → head_of k ≡ some h
    → WriteAs text clips n tags m k out₀ out s → WrittenAs text h clips n tags m itself out₀ out (write_to text h clips n tags m (length out₀))
written_as text clips n tags m k h out₀ out s e p = record { answered = refl; out_after = p.out_after ∙ rw e }

-- a reading with number 0: its head, and that the library's call was accepted with these counts
record Accepts (text clips₀ tags₀ : List ℕ) (r : readᵈ.Read) : Type 0 where
  head : Head
  head_is : head_of r.head ≡ some head
  accepted : parsed text clips₀ tags₀ ≡ given (read head r.clips r.tags r.stop)

accepts : (text clips₀ tags₀ clips tags : List ℕ) (r : readᵈ.Read) → ReadAs text clips₀ tags₀ clips tags r → r.number ≡ 0 → Accepts text clips₀ tags₀ r
accepts text clips₀ tags₀ clips tags r p z = go (was_given (parsed text clips₀ tags₀) (ap (λ (x : readᵈ.Read). x.number) (sym p.answered) ∙ z))
  where
    go : (x : Read) × (parsed text clips₀ tags₀ ≡ given x) → Accepts text clips₀ tags₀ r
    go (read h n m stop, e) =
        let g = read_given r h n m stop (p.answered ∙ ap read_numbers e) in
        record { head = h; head_is = g.head_is; accepted = rw (g.clips_are, g.tags_are, g.stop_is) e }

-- ---- the three calls
-- what comes back, in numbers
in_numbers : (text clips tags : List ℕ) (r : readᵈ.Read) (out : List ℕ) (s : writtenᵈ.Written) (clips₁ tags₁ clips' tags' : List ℕ) (r' : readᵈ.Read) (h : Head) → head_of r.head ≡ some h
    → ReadAs (take s.length out) clips₁ tags₁ clips' tags' r'
    → ComesBack itself r.clips r.tags s.length text h clips tags (take s.length out) clips' tags' (parsed (take s.length out) clips₁ tags₁)
    → FaceComesBack text clips tags r out s clips' tags' r'
in_numbers text clips tags r out s clips₁ tags₁ clips' tags' r' h e p b =
    let g = read_given r' b.head r.clips r.tags s.length (p.answered ∙ ap read_numbers b.answered) in
    record {
      accepted = g.number_is;
      clip_count = g.clips_are;
      tag_count = g.tags_are;
      stop_place = g.stop_is;
      head = h;
      head_of_lem = e;
      head' = b.head;
      head_of' = g.head_is;
      agree = b.agree;
    }

module _ {text clips₀ tags₀ clips tags : List ℕ} {r : readᵈ.Read} {out₀ out : List ℕ} {s : writtenᵈ.Written} {clips₁ tags₁ clips' tags' : List ℕ} {r' : readᵈ.Read} where
  pub by_face : FaceCalls text clips₀ tags₀ clips tags r out₀ out s clips₁ tags₁ clips' tags' r'
      → Asked text clips tags r.clips r.tags s.length clips₁ tags₁ → FaceComesBack text clips tags r out s clips' tags' r'
  by_face c a =
      let f = accepts text clips₀ tags₀ clips tags r c.reads c.accepted in
      let h = f.head in
      let answer = write_to text h clips r.clips tags r.tags (length out₀) in
      let w : s ≡ written_numbers answer = c.writes.answered ∙ rw f.head_is in
      let g = was_given answer (ap (λ (x : writtenᵈ.Written). x.number) (sym w) ∙ c.wrote) in
      let size : g.0 ≡ s.length = ap (λ (x : writtenᵈ.Written). x.length) (sym (w ∙ ap written_numbers g.1)) in
      in_numbers text clips tags r out s clips₁ tags₁ clips' tags' r' h f.head_is c.reads_again
      (by_calls (record {
        reads = parsed_as text clips₀ tags₀ clips tags r c.reads;
        accepted = f.accepted;
        writes = written_as text clips r.clips tags r.tags r.head h out₀ out s f.head_is c.writes;
        wrote = g.1 ∙ ap given size;
        reads_again = parsed_as (take s.length out) clips₁ tags₁ clips' tags' r' c.reads_again;
      }) a)

-- what was read is written wherever it has room
pub face_write_answers : (text clips₀ tags₀ clips tags : List ℕ) (r : readᵈ.Read) (out₀ out : List ℕ) (s : writtenᵈ.Written)
    → ReadAs text clips₀ tags₀ clips tags r → r.number ≡ 0 → WriteAs text clips r.clips tags r.tags r.head out₀ out s
    → (h : Head) × (head_of r.head ≡ some h) × (s ≡ written_numbers (or_refuse (leb (length (written_of text h)) (length out₀)) output_short 0 (given (length (written_of text h)))))
face_write_answers text clips₀ tags₀ clips tags r out₀ out s p z q =
    let f = accepts text clips₀ tags₀ clips tags r p z in
    let h = f.head in
    let w : s ≡ written_numbers (write_to text h clips r.clips tags r.tags (length out₀)) = q.answered ∙ rw f.head_is in
    let x = written_as text clips r.clips tags r.tags r.head h out₀ out s f.head_is q in
    (h, f.head_is, w ∙ ap written_numbers (write_answers itself itself text clips₀ tags₀ clips tags _ h r.clips r.tags r.stop out₀ out _ (parsed_as text clips₀ tags₀ clips tags r p) f.accepted x))
