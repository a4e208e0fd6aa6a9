-- A file that the reader takes has a list: any text that shows its URIs, and a table with a record a clip. Written, that list is the file again. A file no
-- longer than a text may be is such a text itself. For any format. Assumes nothing.
use mathlib.Core.Path.{◌≡◌, refl, sym, ap, ◌∙◌}
use mathlib.Core.Bool.{Bool, true, false, cond, and-eq-true_iff}
use mathlib.Core.List.{List, [], ◌∷◌, append-nil}
use Prim.Native.Nat.{ℕ, zero, suc, ◌-◌, ◌≤◌, ◌<◌}
use native.Mathlib.Omega.{arith}
use lib.Dec.{ltb, leb}
use lib.ListN.{length, replicate, get_or}
use borrow.Author.Tests.{eqb-true, leb-true, le-leb, ltb-true, ltb-false, lt-ltb, le-ltb}
use Rattle.text.specs.Nom.{Span, span}
use Rattle.text.specs.Spans.{span_in, shown}
use Rattle.tables.specs.Layout as layout
use Rattle.tables.specs.Table.{records, clip_word}
use Rattle.tables.specs.Refusal.{given}
use Rattle.tables.proofs.Every.{every_of}
use Rattle.tables.proofs.Records.{words_fit}
use Rattle.tables.proofs.Laying.{records_length, word_of}
use Rattle.clock.specs.Clock as clock
use Rattle.clock.proofs.Lengths.{length_passes, keeps_of}
use Rattle.cue_file.specs.Format.{Format}
use Rattle.cue_file.specs.Write.{uri_of, cue_of, cues_of, written, cue_write}
use Rattle.cue_file.specs.Read.{largest_start, Cursor, count_in, start_in, uri_place, uri_in, cue_in, cues_in, cues}
use Rattle.cue_file.proofs.Numbers.{Bytes}
use Rattle.cue_file.proofs.Kept.{Keeps, span_passes, rule_of}
use Rattle.cue_file.proofs.Judged.{Takes, cues_takes, place_step, start_in_lem, uri_within}
use Rattle.cue_file.proofs.Undo.{listed_ext, write_back, write_back_given}

-- ---- the table
abbrev pub span_start : Span → ℕ
span_start (span a b) = a

abbrev pub span_end : Span → ℕ
span_end (span a b) = b

span_is : (s : Span) → span (span_start s) (span_end s) ≡ s
span_is (span a b) = refl

module _ (f : Format) (file : List ℕ) where
  -- a clip lasts to the next start, the last one not at all
  unfoldable pub lasts : ℕ → ℕ
  lasts k = cond (ltb (suc k) (count_in f file)) (start_in f file (suc k) - start_in f file k) 0

  lasts_next : (k : ℕ) → suc k < count_in f file → lasts k ≡ start_in f file (suc k) - start_in f file k
  unfolding lasts
  lasts_next k h = ap (λ (b : Bool). cond b (start_in f file (suc k) - start_in f file k) 0) (lt-ltb (suc k) (count_in f file) h)

  lasts_end : (k : ℕ) → count_in f file ≤ suc k → lasts k ≡ 0
  unfolding lasts
  lasts_end k h = ap (λ (b : Bool). cond b (start_in f file (suc k) - start_in f file k) 0) (le-ltb (suc k) (count_in f file) h)

module _ (f : Format) (file : List ℕ) (s : ℕ → Span) where
  -- the URIs by these spans, zeros behind the length
  abbrev pub record_of : ℕ → List ℕ
  record_of k = span_start (s k) ∷ span_end (s k) ∷ lasts f file k ∷ replicate (layout.clip_words - 3) 0

  abbrev pub table_of : List ℕ
  table_of = records record_of (count_in f file)

  record_wide : (k : ℕ) → length (record_of k) ≡ layout.clip_words
  record_wide k = refl

  table_word : (k i : ℕ) → k < count_in f file → i < layout.clip_words → clip_word table_of k i ≡ get_or (record_of k) i 0
  table_word k i h l =
      ap (λ (t : List ℕ). clip_word t k i) (sym (append-nil table_of)) ∙ word_of layout.clip_words record_of record_wide (count_in f file) k i [] h l

  table_uri : (k : ℕ) → k < count_in f file → uri_of table_of k ≡ s k
  table_uri k h =
      let a : clip_word table_of k layout.uri_start ≡ span_start (s k) = table_word k layout.uri_start h (omega arith) in
      let b : clip_word table_of k layout.uri_end ≡ span_end (s k) = table_word k layout.uri_end h (omega arith) in
      (λ i. span (a i) (b i)) ∙ span_is (s k)

  table_lasts : (k : ℕ) → k < count_in f file → clock.length_of table_of k ≡ lasts f file k
  table_lasts k h = table_word k layout.length_ns h (omega arith)

  -- its starts are the file's
  module _ (g : Takes f file) where
    table_start : (k : ℕ) → k < count_in f file → clock.sum_lengths table_of k ≡ start_in f file k
    unfolding clock.sum_lengths
    table_start zero h = sym (eqb-true (start_in f file 0) 0 (start_in_lem f file g 0 h).after)
    table_start (suc k) h =
        let l : k < count_in f file = omega arith in
        let rises : start_in f file k ≤ start_in f file (suc k) = leb-true (start_in f file k) (start_in f file (suc k)) (start_in_lem f file g (suc k) h).after in
        omega (arith, table_start k l, table_lasts k l, lasts_next f file k h)

    table_high : (k : ℕ) → k ≤ count_in f file → clock.sum_lengths table_of k ≤ largest_start
    unfolding clock.sum_lengths
    table_high zero h = omega arith
    table_high (suc k) h = go (ltb (suc k) (count_in f file)) refl
      where
        go : (b : Bool) → ltb (suc k) (count_in f file) ≡ b → clock.sum_lengths table_of (suc k) ≤ largest_start
        go true e =
            let l : suc k < count_in f file = ltb-true (suc k) (count_in f file) e in
            omega (arith, table_start (suc k) l, (start_in_lem f file g (suc k) l).high)
        go false e =
            let l : count_in f file ≤ suc k = ltb-false (suc k) (count_in f file) e in
            omega (arith, table_start k h, (start_in_lem f file g k h).high, table_lasts k h, lasts_end f file k l)

    table_clock : clock.keeps_rule table_of (count_in f file) ≡ true
    unfolding clock.sum_lengths
    table_clock =
        let n = count_in f file in
        keeps_of table_of n n (omega arith) (words_fit layout.clip_words n table_of (omega (arith, records_length layout.clip_words record_of record_wide n)))
        (every_of (length_passes table_of) n (λ k h. lt-ltb (clock.length_of table_of k) layout.length_limit (omega (arith, table_high (suc k) h))))

-- ---- a text that shows the URIs
module _ (f : Format) (file text : List ℕ) (s : ℕ → Span) where
  pub record Shows : Type 0 where
    pub short : length text ≤ layout.text_limit
    pub inside : (k : ℕ) → k < count_in f file → span_in text (s k) ≡ true
    pub uri : (k : ℕ) → k < count_in f file → shown text (s k) ≡ (cue_in f file k).uri

  module _ (c : Cursor) (o : cues f file ≡ given c) (x : Shows) where
    takes : Takes f file
    takes = cues_takes f file c o

    -- the table's list keeps the writer's rules
    pub table_keeps : Keeps text (table_of f file s) (count_in f file)
    table_keeps =
        let n = count_in f file in
        let t = table_of f file s in
        record {
          short = x.short;
          rule = rule_of text t n (table_clock f file s takes)
              (every_of (span_passes text t) n (λ k h. ap (span_in text) (table_uri f file s k h) ∙ x.inside k h));
          total = table_high f file s takes n (omega arith);
        }

    -- and is the file's
    pub table_cues : cues_of text (table_of f file s) (count_in f file) ≡ cues_in f file
    table_cues =
        let t = table_of f file s in
        listed_ext (cue_of text t) (cue_in f file) 0 (count_in f file)
        (λ k l u.
        let h : k < count_in f file = omega arith in
        let start : clock.sum_lengths t k ≡ start_in f file k = table_start f file s takes k h in
        let uri : shown text (uri_of t k) ≡ (cue_in f file k).uri = ap (shown text) (table_uri f file s k h) ∙ x.uri k h in
        λ i. record { start = start i; uri = uri i })

    -- so its file is the file that was read, and the writer writes it
    module _ (small : Bytes file) where
      pub file_again : written text (table_of f file s) f (count_in f file) ≡ file
      file_again = write_back f file small c o text (table_of f file s) (count_in f file) table_keeps table_cues

      pub written_again : (out : List ℕ) → length file ≤ length out → cue_write text (table_of f file s) f (count_in f file) out ≡ given (length file)
      written_again = write_back_given f file small c o text (table_of f file s) (count_in f file) table_keeps table_cues

-- ---- a file no longer than a text may be shows its own URIs
pub own_text : (f : Format) (file : List ℕ) (c : Cursor) → cues f file ≡ given c → length file ≤ layout.text_limit → Shows f file file (uri_in f file)
own_text f file c o short = record {
  short = short;
  inside = λ k h.
      (and-eq-true_iff (leb (uri_place f file k) (uri_place f file (suc k))) (leb (uri_place f file (suc k)) (length file))).1 (
        le-leb (uri_place f file k) (uri_place f file (suc k)) (omega (arith, place_step f file k)),
        le-leb (uri_place f file (suc k)) (length file) (omega (arith, uri_within f file (cues_takes f file c o) k h)),
      );
  uri = λ k h. refl;
}
