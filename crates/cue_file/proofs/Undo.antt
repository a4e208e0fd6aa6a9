-- Writer and reader undo each other, by the promises of their calls: what was written reads back clip by clip, what was read, written again, is the file it
-- was, two lists have one file only where they are the same list. For any format. Assumes nothing.
use Rattle.std.specs.Prelude.{Result}
use mathlib.Core.Path.{◌≡◌, refl, sym, ap, ◌∙◌, subst}
use mathlib.Core.Bool.{true}
use mathlib.Core.List.{List, ◌++◌}
use mathlib.Core.Logic.{◌↔◌}
use Prim.Native.Nat.{ℕ, zero, suc, ◌+◌, ◌%◌, ◌≤◌, ◌<◌}
use native.Mathlib.Nat.{add-zero, zero-add, mod-lt}
use native.Mathlib.Omega.{arith}
use lib.Dec.{lit<}
use lib.ListN.{length, take, drop, get_or}
use lib.Seq.{take_at}
use borrow.Author.Tests.{eq-eqb, le-leb}
use Rattle.text.specs.Spans.{shown}
use Rattle.tables.specs.Layout.{second}
use Rattle.tables.specs.Table.{listed}
use Rattle.tables.specs.declared.Refusal as refusalᵈ
use Rattle.tables.specs.Answers.{laid_of}
use Rattle.tables.specs.Refusal.{refused, given, output_short, no_such_clip}
use Rattle.tables.proofs.Every.{every_of}
use Rattle.tables.proofs.Listed.{listed_length}
use Rattle.clock.specs.Clock.{sum_lengths, largest_total}
use Rattle.clock.proofs.Lengths.{sum_mono}
use Rattle.cue_file.specs.Format.{Format, ClipRow, Cue, file_of, file_holds}
use Rattle.cue_file.specs.Write.{uri_of, cue_of, cues_of, written, cue_write, WrittenAs}
use Rattle.cue_file.specs.Read.{found, Cursor, count_in, clip_in, start_in, uri_in, cue_in, cues_in, follows, start_keeps, cue_read, cues}
use Rattle.cue_file.proofs.Numbers.{Bytes}
use Rattle.cue_file.proofs.Kept.{Keeps, Writes, write_10, write_given, write_passed}
use Rattle.cue_file.proofs.Judged.{Takes, start_good, read_given, read_14, cues_takes}
use Rattle.cue_file.proofs.File.{count_back, version_back, file_long, cues_back, rows_back, fits_back, file_back, file_holds_lem}

-- ---- entry j of those that are listed; and lists with the same entries are the same
pub listed_at : {A : Type 0} (at : ℕ → A) (k n j : ℕ) (d : A) → j < n → get_or (listed at k n) j d ≡ at (k + j)
unfolding listed
listed_at at k zero j d h = absurd (omega arith)
listed_at at k (suc n) zero d h = rw (add-zero k)
listed_at at k (suc n) (suc j) d h =
    let e : suc k + j ≡ k + suc j = omega arith in
    listed_at at (suc k) n j d (omega arith) ∙ ap at e

pub listed_ext : {A : Type 0} (a b : ℕ → A) (k n : ℕ) → ((j : ℕ) → k ≤ j → j < k + n → a j ≡ b j) → listed a k n ≡ listed b k n
unfolding listed
listed_ext a b k zero h = refl
listed_ext a b k (suc n) h = rw (h k (omega arith) (omega arith), listed_ext a b (suc k) n (λ j l u. h j (omega arith) (omega arith)))

pub listed_same : {A : Type 0} (a b : ℕ → A) (n : ℕ) → listed a 0 n ≡ listed b 0 n → (k : ℕ) → k < n → a k ≡ b k
listed_same a b n e k h =
    ap a (sym (zero-add k)) ∙ sym (listed_at a 0 n k (a 0) h) ∙ ap (λ l. get_or l k (a 0)) e ∙ listed_at b 0 n k (a 0) h ∙ ap b (zero-add k)

-- ---- the file that was written
module _ (text t : List ℕ) (f : Format) (n : ℕ) (h : file_holds f (cues_of text t n) ≡ true) where
  pub written_count : count_in f (written text t f n) ≡ n
  written_count = count_back f (cues_of text t n) h ∙ listed_length (cue_of text t) 0 n

  -- it holds each clip's start and URI
  pub written_cue : (k : ℕ) → k < n → cue_in f (written text t f n) k ≡ cue_of text t k
  written_cue =
      let in-file = cue_in f (written text t f n) in
      listed_same in-file (cue_of text t) n (ap (listed in-file 0) (sym written_count) ∙ cues_back f (cues_of text t n) h)

  pub written_start : (k : ℕ) → k < n → start_in f (written text t f n) k ≡ sum_lengths t k
  written_start k l = ap (λ (c : Cue). c.start) (written_cue k l)

  pub written_uri : (k : ℕ) → k < n → shown (written text t f n) (uri_in f (written text t f n) k) ≡ shown text (uri_of t k)
  written_uri k l = ap (λ (c : Cue). c.uri) (written_cue k l)

  written_follows : (k : ℕ) → k < n → follows f (written text t f n) k ≡ true
  unfolding sum_lengths
  written_follows zero l = eq-eqb (start_in f (written text t f n) 0) 0 (written_start 0 l)
  written_follows (suc k) l =
      le-leb (start_in f (written text t f n) k) (start_in f (written text t f n) (suc k))
      (omega (arith, written_start k (omega arith), written_start (suc k) l, sum_mono t k (suc k) (omega arith)))

  -- and the reader takes it
  pub written_takes : sum_lengths t n ≤ largest_total → Takes f (written text t f n)
  written_takes total = record {
    long = file_long f (cues_of text t n) h;
    version = version_back f (cues_of text t n) h;
    fits = fits_back f (cues_of text t n) h;
    starts = every_of (start_keeps f (written text t f n)) (count_in f (written text t f n)) starts;
  }
    where
      starts : (k : ℕ) → k < count_in f (written text t f n) → start_keeps f (written text t f n) k ≡ true
      starts k l =
          let m : k < n = omega (arith, written_count) in
          let row : (clip_in f (written text t f n) k).nanoseconds ≡ start_in f (written text t f n) k % second
          = ap (λ (r : ClipRow). r.nanoseconds) (rows_back f (cues_of text t n) h k (omega (arith, listed_length (cue_of text t) 0 n))) in
          let low : start_in f (written text t f n) k % second < second = mod-lt (start_in f (written text t f n) k) (lit< tt) in
          start_good f (written text t f n) k
          (record {
            after = written_follows k m;
            high = omega (arith, written_start k m, sum_mono t k n (omega arith));
            nanoseconds = omega arith;
          })

-- ---- written, then read
module _ (text t : List ℕ) (f : Format) (n : ℕ) (out₀ out : List ℕ) (r : Result ℕ refusalᵈ.Refusal) where
  module _ (p : WrittenAs text t f n out₀ out r) (m : ℕ) (e : laid_of r ≡ given m) where
    given_too : cue_write text t f n out₀ ≡ given m
    given_too = sym p.answered ∙ e

    passed : Writes text t n f out₀ × (m ≡ length (written text t f n))
    passed = write_passed text t n f out₀ m given_too

    -- the bytes that were given are the file
    pub front_is : take m out ≡ written text t f n
    front_is =
        let w = written text t f n in
        let after : out ≡ w ++ drop (length w) out₀ = rw given_too at p.out_after in
        ap (take m) after ∙ take_at w (drop (length w) out₀) m (sym passed.1)

    pub read_back : (k : ℕ) → k < n → cue_read f (take m out) k ≡ given (found (sum_lengths t k) (uri_in f (take m out) k) n)
    read_back k l =
        let w = written text t f n in
        let x = passed.0 in
        let count = written_count text t f n x.holds in
        subst (λ (s : List ℕ). cue_read f s k ≡ given (found (sum_lengths t k) (uri_in f s k) n)) (sym front_is)
        (read_given f w (written_takes text t f n x.holds x.keeps.total) k (omega (arith, count))
        ∙ ap (λ (s : ℕ). given (found s (uri_in f w k) (count_in f w))) (written_start text t f n x.holds k l)
        ∙ ap (λ (c : ℕ). given (found (sum_lengths t k) (uri_in f w k) c)) count)

    pub uri_back : (k : ℕ) → k < n → shown (take m out) (uri_in f (take m out) k) ≡ shown text (uri_of t k)
    uri_back k l =
        let x = passed.0 in
        subst (λ (s : List ℕ). shown s (uri_in f s k) ≡ shown text (uri_of t k)) (sym front_is) (written_uri text t f n x.holds k l)

    pub read_none : (k : ℕ) → n ≤ k → cue_read f (take m out) k ≡ refused no_such_clip 0
    read_none k l =
        let w = written text t f n in
        let x = passed.0 in
        subst (λ (s : List ℕ). cue_read f s k ≡ refused no_such_clip 0) (sym front_is)
        (read_14 f w (written_takes text t f n x.holds x.keeps.total) k (omega (arith, written_count text t f n x.holds)))

-- ---- read, then written: of a file that the reader takes, and any list of its clips
module _ (f : Format) (file : List ℕ) (small : Bytes file) (c : Cursor) (o : cues f file ≡ given c) where
  module _ (text t : List ℕ) (n : ℕ) (k : Keeps text t n) (e : cues_of text t n ≡ cues_in f file) where
    pub write_back : written text t f n ≡ file
    write_back = ap (file_of f) e ∙ file_back f file small (cues_takes f file c o)

    -- 33 does not arise
    holds_back : file_holds f (cues_of text t n) ≡ true
    holds_back = ap (file_holds f) e ∙ file_holds_lem f file small (cues_takes f file c o)

    module _ (out : List ℕ) where
      pub write_back_given : length file ≤ length out → cue_write text t f n out ≡ given (length file)
      write_back_given l =
          write_given text t n f out (record { keeps = k; holds = holds_back; room = subst (λ (s : List ℕ). length s ≤ length out) (sym write_back) l })
          ∙ ap (λ (s : List ℕ). given (length s)) write_back

      pub write_back_10 : length out < length file → cue_write text t f n out ≡ refused output_short 0
      write_back_10 l = write_10 text t n f out k holds_back (subst (λ (s : List ℕ). length out < length s) (sym write_back) l)

-- ---- two lists that are written have one file exactly where they are the same list
module _ (f : Format) (text t : List ℕ) (n : ℕ) (text' t' : List ℕ) (n' : ℕ) where
  pub one_file : (out out' : List ℕ) (m m' : ℕ) → cue_write text t f n out ≡ given m → cue_write text' t' f n' out' ≡ given m'
      → (written text t f n ≡ written text' t' f n') ↔ (cues_of text t n ≡ cues_of text' t' n')
  one_file out out' m m' p q = (
    λ e.
        sym (cues_back f (cues_of text t n) (write_passed text t n f out m p).0.holds)
        ∙ ap (cues_in f) e
        ∙ cues_back f (cues_of text' t' n') (write_passed text' t' n' f out' m' q).0.holds,
    λ e. ap (file_of f) e,
  )
