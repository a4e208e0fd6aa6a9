-- The words of clips that were read, clip by clip: each clip's length and URI, the exact sums, the clock's rule 9. By induction on the clips, with those before
-- them. Assumes nothing.
use Prim.Native.Nat.{ℕ, suc, ◌+◌, ◌*◌, ◌<◌}
use mathlib.Core.Path.{◌≡◌, refl, sym, ap, ◌∙◌}
use mathlib.Core.Bool.{true}
use mathlib.Core.List.{List, [], ◌∷◌, ◌++◌, append_assoc}
use native.Mathlib.Omega.{arith}
use lib.ListN.{length, get_or, length-append}
use borrow.Author.Tests.{le-leb, lt-ltb}
use Rattle.text.specs.Nom.{Span, span, bytes, is_none_of}
use Rattle.text.specs.Spans.{span_in}
use Rattle.tables.specs.Layout.{clip_words, length_limit, uri_start, uri_end, length_ns}
use Rattle.tables.specs.Table.{every, fits, clip_word}
use Rattle.assembly.specs.Assembly.{Clip}
use Rattle.assembly.specs.Words.{span_words, clip_words_of, clips_words}
use Rattle.assembly.proofs.Records.{clips_words_length}
use Rattle.assembly.proofs.ReadBack.{clip_back}
use Rattle.records.proofs.Back.{All, span_two}
use Rattle.roundtrip.proofs.Gives.{Shows}
use Rattle.roundtrip.proofs.Guaranteed.{SoundClipOf}
use Rattle.clock.specs.Clock.{length_of, sum_lengths, keeps_rule}
use Rattle.clock.proofs.Lengths.{length_passes}
use Rattle.read_clips.specs.Lists.{ns_of, total_of}

-- ---- a clip's own words
length_word : (c : Clip) → get_or (clip_words_of c) length_ns 0 ≡ ns_of c
unfolding clip_words_of
length_word c = rw (span_two c.uri)

uri_word : (c : Clip) → span (get_or (clip_words_of c) uri_start 0) (get_or (clip_words_of c) uri_end 0) ≡ c.uri
unfolding clip_words_of
uri_word c = rw (span_two c.uri) (go c.uri)
  where
    go : (u : Span) → span (get_or (span_words u) 0 0) (get_or (span_words u) 1 0) ≡ u
    go (span a b) = refl

-- ---- what the reader guarantees of a clip
module _ (text : List ℕ) (c : Clip) (h : SoundClipOf text c) where
  pub ns_below : ns_of c < length_limit
  ns_below = h.1.length

  pub uri_within : span_in text c.uri ≡ true
  uri_within = go c.uri h.0.0
    where
      go : (u : Span) → Shows (is_none_of (bytes "\r\n")) text u → span_in text u ≡ true
      go (span a b) s = rw (le-leb a b (omega (arith, s.long)), le-leb b (length text) s.within)

module _ (rest : List ℕ) (all : List Clip) where
  -- the table: the words of all clips, and whatever stands behind them
  abbrev pub words : List ℕ
  words = clips_words all ++ rest

  -- the clips from clip k on
  pub record From (k : ℕ) (clips : List Clip) : Type 0 where
    pub before : List Clip
    pub whole : all ≡ before ++ clips
    pub place : length before ≡ k

  pub from_start : From 0 all
  from_start = record { before = []; whole = refl; place = refl }

  module _ (k : ℕ) (c : Clip) (clips : List Clip) (h : From k (c ∷ clips)) where
    pub from_next : From (suc k) clips
    from_next =
        record {
          before = h.before ++ (c ∷ []);
          whole = h.whole ∙ sym (append_assoc h.before (c ∷ []) clips);
          place = rw length-append (omega (arith, h.place));
        }

    word_from : (i : ℕ) → i < clip_words → clip_word words k i ≡ get_or (clip_words_of c) i 0
    word_from i l =
        ap (λ (n : ℕ). clip_word words n i) (sym h.place)
        ∙ (ap (λ (xs : List Clip). clip_word (clips_words xs ++ rest) (length h.before) i) h.whole ∙ clip_back h.before clips c rest i l)

    pub length_from : length_of words k ≡ ns_of c
    length_from = word_from length_ns (omega arith) ∙ length_word c

    pub uri_from : span (clip_word words k uri_start) (clip_word words k uri_end) ≡ c.uri
    uri_from = rw (word_from uri_start (omega arith), word_from uri_end (omega arith)) (uri_word c)

    pub sum_from : sum_lengths words (suc k) ≡ sum_lengths words k + ns_of c
    unfolding sum_lengths
    sum_from = ap (λ (n : ℕ). sum_lengths words k + n) length_from

    pub one_more : k + length (c ∷ clips) ≡ suc k + length clips
    one_more = omega arith

  pub from_none : 0 + length all ≡ length all
  from_none = omega arith

  -- ---- the exact sums
  sums : (k : ℕ) (clips : List Clip) → From k clips → sum_lengths words (k + length clips) ≡ sum_lengths words k + total_of clips
  unfolding total_of
  sums k [] h = let e : k + 0 ≡ k = omega arith in ap (sum_lengths words) e ∙ omega arith
  sums k (c ∷ clips) h = ap (sum_lengths words) (one_more k c clips h) ∙ omega (arith, sums (suc k) clips (from_next k c clips h), sum_from k c clips h)

  pub total_sum : sum_lengths words (length all) ≡ total_of all
  unfolding sum_lengths
  total_sum = ap (sum_lengths words) (sym from_none) ∙ (sums 0 all from_start ∙ omega arith)

  -- ---- rule 9 of the clock
  module _ (text : List ℕ) where
    passes : (k : ℕ) (clips : List Clip) → From k clips → All (SoundClipOf text) clips → every (length_passes words) k ≡ true → every (length_passes words) (k + length clips) ≡ true
    unfolding All every
    passes k [] h s e = let z : k + 0 ≡ k = omega arith in ap (every (length_passes words)) z ∙ e
    passes k (c ∷ clips) h s e =
        let l : length_of words k < length_limit = rw (length_from k c clips h) (ns_below text c s.0) in
        ap (every (length_passes words)) (one_more k c clips h) ∙ passes (suc k) clips (from_next k c clips h) s.1 (rw (e, lt-ltb (length_of words k) length_limit l))

    pub clock_keeps : All (SoundClipOf text) all → keeps_rule words (length all) ≡ true
    unfolding keeps_rule fits every
    clock_keeps s =
        let n : length words ≡ length all * clip_words + length rest = length-append (clips_words all) rest ∙ ap (λ (x : ℕ). x + length rest) (clips_words_length all) in
        rw (le-leb (length all * clip_words) (length words) (omega (arith, n)), ap (every (length_passes words)) (sym from_none) ∙ passes 0 all from_start s refl)
