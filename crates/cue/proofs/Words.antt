-- The writer's call over the words of clips that were read makes the file of these clips. By induction on the clips, with those before them.
-- Assumes nothing.
use Prim.Native.Nat.{ℕ, suc, ◌+◌, ◌≤◌}
use mathlib.Core.Path.{◌≡◌, refl, sym, ap, ◌∙◌}
use mathlib.Core.Bool.{Bool, true, false}
use mathlib.Core.List.{List, [], ◌∷◌}
use native.Mathlib.Omega.{arith}
use lib.Dec.{leb}
use lib.ListN.{length}
use borrow.Author.Tests.{le-leb}
use Rattle.text.specs.Spans.{span_in, shown}
use Rattle.tables.specs.Layout.{text_limit}
use Rattle.tables.specs.Table.{every, listed}
use Rattle.tables.specs.Refusal.{Refusal, Answer, given, or_refuse, total_too_long, too_wide, output_short}
use Rattle.assembly.specs.Assembly.{Clip}
use Rattle.records.proofs.Back.{All}
use Rattle.roundtrip.proofs.Guaranteed.{SoundClipOf}
use Rattle.clock.specs.Clock.{largest_total, sum_lengths}
use Rattle.cue_file.specs.Format.{version1, file_of, file_holds}
use Rattle.cue_file.specs.Write.{uri_of, cue_of, cues_of, keeps_rule, list_keeps, cue_write}
use Rattle.read_clips.specs.Lists.{total_of}
use Rattle.read_clips.proofs.Words.{words, From, from_start, from_next, from_none, one_more, uri_from, sum_from, total_sum, clock_keeps, uri_within}
use Rattle.cue.specs.File.{cues_from}
use Rattle.cue.specs.Inside.Words.{filed, words_file}

-- a refusal comes first, whatever is filed
filed_or : (b : Bool) (r : Refusal) (p : ℕ) (answer : Answer ℕ) (file : List ℕ) → filed (or_refuse b r p answer) file ≡ or_refuse b r p (filed answer file)
filed_or true r p answer file = refl
filed_or false r p answer file = refl

module _ (text rest : List ℕ) (all : List Clip) where
  abbrev table : List ℕ
  table = words rest all

  -- ---- clip by clip
  cues : (k : ℕ) (clips : List Clip) → From rest all k clips → listed (cue_of text table) k (length clips) ≡ cues_from text (sum_lengths table k) clips
  unfolding listed cues_from
  cues k [] h = refl
  cues k (c ∷ clips) h =
      let on = cues (suc k) clips (from_next rest all k c clips h) ∙ ap (λ (m : ℕ). cues_from text m clips) (sum_from rest all k c clips h) in
      let uri = ap (shown text) (uri_from rest all k c clips h) in
      λ i. record { start = sum_lengths table k; uri = uri i } ∷ on i

  cues_words : cues_of text table (length all) ≡ cues_from text 0 all
  unfolding sum_lengths
  cues_words = cues 0 all (from_start rest all)

  -- ---- rule 9
  abbrev span_passes : ℕ → Bool
  span_passes k = span_in text (uri_of table k)

  passes : (k : ℕ) (clips : List Clip) → From rest all k clips → All (SoundClipOf text) clips → every span_passes k ≡ true → every span_passes (k + length clips) ≡ true
  unfolding All every
  passes k [] h s e = let z : k + 0 ≡ k = omega arith in ap (every span_passes) z ∙ e
  passes k (c ∷ clips) h s e =
      let l : span_passes k ≡ true = ap (span_in text) (uri_from rest all k c clips h) ∙ uri_within text c s.0 in
      ap (every span_passes) (one_more rest all k c clips h) ∙ passes (suc k) clips (from_next rest all k c clips h) s.1 (rw (e, l))

  keeps : All (SoundClipOf text) all → keeps_rule text table (length all) ≡ true
  unfolding keeps_rule every
  keeps s = rw (clock_keeps rest all text s, ap (every span_passes) (sym (from_none rest all)) ∙ passes 0 all (from_start rest all) s refl)

  -- ---- the call
  module _ (short : length text ≤ text_limit) (s : All (SoundClipOf text) all) (out : List ℕ) where
    pub words_file_lem : words_file text table (length all) out
        ≡ or_refuse (leb (total_of all) largest_total) total_too_long 0
        (or_refuse (file_holds version1 (cues_from text 0 all)) too_wide 0
        (or_refuse (leb (length (file_of version1 (cues_from text 0 all))) (length out)) output_short 0
        (given (file_of version1 (cues_from text 0 all)))))
    unfolding cue_write list_keeps
    words_file_lem =
        rw (
          le-leb (length text) text_limit short,
          keeps s,
          total_sum rest all,
          cues_words,
          filed_or (leb (total_of all) largest_total),
          filed_or (file_holds version1 (cues_from text 0 all)),
          filed_or (leb (length (file_of version1 (cues_from text 0 all))) (length out)),
        )
