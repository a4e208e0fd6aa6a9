-- The round trip by the promises of the calls: a text read, its tables written, what was written read again with any tables that have room. Assumes nothing.
use Prim.Native.Nat.{ℕ}
use mathlib.Core.Path.{◌≡◌, refl, sym, ap, ◌∙◌}
use mathlib.Core.Bool.{true}
use mathlib.Core.List.{List, [], ◌∷◌, ◌++◌}
use lib.Dec.{leb}
use borrow.Author.Tests.{le-leb}
use lib.ListN.{length, take, drop}
use Rattle.tables.specs.Refusal.{Answer, given, or_refuse, text_too_long, broken_table, output_short}
use Rattle.tables.proofs.Refusals.{front_or}
use Rattle.tables.specs.Layout.{text_limit}
use Rattle.assembly.specs.Assembly.{Head}
use Rattle.lengths.specs.Binary32.{seconds_bits}
use Rattle.media.specs.Calls.{Read, read, parse_media_playlist, ParsedAs}
use Rattle.records.specs.Records.{clips_at, tags_at}
use Rattle.records.specs.Same.{shown_list, same_list}
use Rattle.rule9.specs.Rule9.{keeps_rule}
use Rattle.playlist.specs.Calls.{written_text, write_to, WrittenAs}
use Rattle.roundtrip.specs.RoundTrip.{written_of, clips_after, tags_after}
use Rattle.roundtrip.specs.ByCalls.{Asked, ThreeCalls, ComesBack}
use Rattle.roundtrip.proofs.Taken.{admitted_text}
use Rattle.roundtrip.proofs.Accepted.{accepted_parts}
use Rattle.roundtrip.proofs.Held.{Held, tables_hold}
use Rattle.roundtrip.proofs.Round.{round_trip}
use Rattle.roundtrip.proofs.Writing.{reader_writes}
use Rattle.roundtrip.proofs.Bits.{same_lengths, bits_kept}

-- ---- a reading that was accepted: its tables hold the list and keep rule 9, and the text of the list is what is written of them
record Left (text clips₀ tags₀ clips tags : List ℕ) (h : Head) (n m stop : ℕ) : Type 0 where
  short : leb (length text) text_limit ≡ true
  reading : parse_media_playlist text (length clips₀) (length tags₀) ≡ given (read h n m stop)
  held : Held text clips tags h n m
  keeps : keeps_rule text h clips n tags m ≡ true
  writes : written_text text h clips n tags m ≡ written_of text h

left : {R : Type 0} (readView : R → Answer Read) (text clips₀ tags₀ clips tags : List ℕ) (r : R) (h : Head) (n m stop : ℕ)
    → ParsedAs readView text clips₀ tags₀ clips tags r → readView r ≡ given (read h n m stop) → Left text clips₀ tags₀ clips tags h n m stop
left readView text clips₀ tags₀ clips tags r h n m stop p accepted =
    let e : parse_media_playlist text (length clips₀) (length tags₀) ≡ given (read h n m stop) = sym p.answered ∙ accepted in
    let c : clips ≡ clips_after text clips₀ = p.clips_after ∙ rw e in
    let t : tags ≡ tags_after text tags₀ = p.tags_after ∙ rw e in
    let w = reader_writes text clips₀ tags₀ h n m stop e in
    let admits = (accepted_parts text (length clips₀) (length tags₀) (read h n m stop) e).admits in
    record {
      short = le-leb (length text) text_limit (admitted_text text admits).short;
      reading = e;
      held = rw (c, t) (tables_hold text clips₀ tags₀ h n m stop e);
      keeps = rw (c, t) w.keeps;
      writes = rw (c, t) w.writes;
    }

-- ---- a writing that was accepted
take_front : (w rest : List ℕ) → take (length w) (w ++ rest) ≡ w
take_front [] rest = refl
take_front (a ∷ w) rest = ap (λ (xs : List ℕ). a ∷ xs) (take_front w rest)

-- its answer is the length of its text
written_length : (text : List ℕ) (h : Head) (clips : List ℕ) (n : ℕ) (tags : List ℕ) (m room k : ℕ)
    → write_to text h clips n tags m room ≡ given k → length (written_text text h clips n tags m) ≡ k
unfolding write_to
written_length text h clips n tags m room k e =
    let w = written_text text h clips n tags m in
    let a = (front_or text_too_long 0 (leb (length text) text_limit)).passed _ _ e in
    let b = (front_or broken_table 0 (keeps_rule text h clips n tags m)).passed _ _ a.1 in
    let c = (front_or output_short 0 (leb (length w) room)).passed _ _ b.1 in
    let g = c.1 in
    cc

-- the first k bytes of the output are its text
written_front : {S : Type 0} (writeView : S → Answer ℕ) (text : List ℕ) (h : Head) (clips : List ℕ) (n : ℕ) (tags : List ℕ) (m : ℕ) (out₀ out : List ℕ) (s : S) (k : ℕ)
    → WrittenAs text h clips n tags m writeView out₀ out s → writeView s ≡ given k → (take k out ≡ written_text text h clips n tags m) × (length (written_text text h clips n tags m) ≡ k)
written_front writeView text h clips n tags m out₀ out s k q wrote =
    let w = written_text text h clips n tags m in
    let writing : write_to text h clips n tags m (length out₀) ≡ given k = sym q.answered ∙ wrote in
    let size = written_length text h clips n tags m (length out₀) k writing in
    let o : out ≡ w ++ drop (length w) out₀ = q.out_after ∙ rw writing in
    (rw (o, ← size) (take_front w _), size)

-- ---- what was read is written wherever it has room: the writer has no other refusal for it
pub write_answers : {R S : Type 0} (readView : R → Answer Read) (writeView : S → Answer ℕ) (text clips₀ tags₀ clips tags : List ℕ) (r : R) (h : Head) (n m stop : ℕ) (out₀ out : List ℕ) (s : S)
    → ParsedAs readView text clips₀ tags₀ clips tags r → readView r ≡ given (read h n m stop) → WrittenAs text h clips n tags m writeView out₀ out s
    → writeView s ≡ or_refuse (leb (length (written_of text h)) (length out₀)) output_short 0 (given (length (written_of text h)))
unfolding write_to
write_answers readView writeView text clips₀ tags₀ clips tags r h n m stop out₀ out s p accepted q =
    let f = left readView text clips₀ tags₀ clips tags r h n m stop p accepted in
    q.answered ∙ rw (f.short, f.keeps, f.writes)

-- ---- the three calls
module _ {R S : Type 0} {readView : R → Answer Read} {writeView : S → Answer ℕ} {text clips₀ tags₀ clips tags : List ℕ} {r : R} {h : Head} {n m stop : ℕ}
    {out₀ out : List ℕ} {s : S} {k : ℕ} {clips₁ tags₁ clips' tags' : List ℕ} {r' : R} where
  pub by_calls : ThreeCalls readView writeView text clips₀ tags₀ clips tags r h n m stop out₀ out s k clips₁ tags₁ clips' tags' r'
      → Asked text clips tags n m k clips₁ tags₁ → ComesBack readView n m k text h clips tags (take k out) clips' tags' r'
  by_calls c a =
      let w = take k out in
      let first = left readView text clips₀ tags₀ clips tags r h n m stop c.reads c.accepted in
      let front = written_front writeView text h clips n tags m out₀ out s k c.writes c.wrote in
      let whole : w ≡ written_of text h = front.0 ∙ first.writes in
      let size : length (written_of text h) ≡ k = ap length (sym first.writes) ∙ front.1 in
      let uris = rw first.held.clips_hold at a.uris in
      let names = rw first.held.tags_hold at a.names in
      let back = round_trip text (length clips₀) (length tags₀) h n m stop first.reading uris names (rw size a.short) (length clips₁) (length tags₁) a.clip_room a.tag_room in
      let again : parse_media_playlist w (length clips₁) (length tags₁) ≡ given (read back.head n m (length (written_of text h))) = rw whole back.accepted in
      let answered : readView r' ≡ given (read back.head n m k) = c.reads_again.answered ∙ again ∙ ap (λ (stop : ℕ). given (read back.head n m stop)) size in
      let second = left readView w clips₁ tags₁ clips' tags' r' back.head n m k c.reads_again answered in
      let same : same_list (shown_list text h (clips_at clips n) (tags_at tags m)) (shown_list w back.head (clips_at clips' n) (tags_at tags' m)) ≡ true =
      rw (first.held.clips_hold, first.held.tags_hold, second.held.clips_hold, second.held.tags_hold, whole) back.same in
      record {
        head = back.head;
        answered = answered;
        agree = record {
          same = same;
          bits = λ i l.
              bits_kept text h clips n tags m first.keeps i l
              ∙ ap seconds_bits (same_lengths n text h clips _ w back.head clips' _ same i l)
              ∙ sym (bits_kept w back.head clips' n tags' m second.keeps i l);
        };
      }
