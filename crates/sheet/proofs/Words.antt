-- The clock's pass over the words of clips that were read prints the sheet of these clips. By induction on the clips, with those before them.
-- Assumes nothing.
use Prim.Native.Nat.{ℕ, suc, ◌+◌, ◌≤◌, ◌<◌}
use mathlib.Core.Path.{◌≡◌, refl, sym, ap, ◌∙◌}
use mathlib.Core.Bool.{Bool, true, false, and-eq-true_iff}
use mathlib.Core.List.{List, [], ◌∷◌, ◌++◌}
use native.Mathlib.Omega.{arith}
use lib.Dec.{leb}
use lib.ListN.{length}
use borrow.Author.Tests.{leb-true, leb-false}
use Rattle.text.specs.Nom.{Span, span}
use Rattle.text.specs.Spans.{span_in, shown}
use Rattle.tables.specs.Layout.{uri_start, uri_end}
use Rattle.tables.specs.Table.{clip_word}
use Rattle.tables.specs.Refusal.{refused, given, or_refuse, total_too_long}
use Rattle.assembly.specs.Assembly.{Clip}
use Rattle.records.proofs.Back.{All}
use Rattle.roundtrip.proofs.Guaranteed.{SoundClipOf}
use Rattle.clock.specs.Clock.{largest_total, sum_lengths, moment_of, tick_of}
use Rattle.clock.specs.Calls.{at_rate, in_turn}
use Rattle.starts.specs.Starts.{starts}
use Rattle.clock.proofs.Calls.{InTurn, timed_11}
use Rattle.starts.proofs.Pass.{cursor_at, row_at, pass_opens, pass_steps}
use Rattle.read_clips.specs.Lists.{ns_of, total_of}
use Rattle.read_clips.proofs.Words.{words, From, from_start, from_next, from_none, length_from, uri_from, sum_from, total_sum, clock_keeps, uri_within}
use Rattle.output.specs.Waiting.{part}
use Rattle.output.proofs.Laws.{part_there}
use Rattle.sheet.specs.Sheet.{sheet_rate, header_line, clip_line, total_line, clip_lines, sheet_of}
use Rattle.sheet.specs.Inside.Pass.{row_line, pass_lines, pass_sheet, opened_sheet, words_sheet}

module _ (text rest : List ℕ) (all : List Clip) where
  abbrev table : List ℕ
  table = words rest all

  -- a URI's part of the text
  shown_part : (u : Span) → span_in text u ≡ true → (a b : ℕ) → span a b ≡ u → part text a b ≡ shown text u
  shown_part u h a b e =
      let q = (and-eq-true_iff (leb a b) (leb b (length text))).0 (rw (← e) at h) in
      rw (← e) (sym (part_there text a b (leb-true b (length text) q.1) (leb-true a b q.0)))

  -- ---- line by line
  module _ (n : ℕ) (g : InTurn table n sheet_rate 0) where
    first_turn : (k : ℕ) → moment_of table n 0 k ≡ sum_lengths table k
    unfolding moment_of
    first_turn k = omega arith

    row_line_lem : (k : ℕ) (c : Clip) (clips : List Clip) → From rest all k (c ∷ clips) → SoundClipOf text c
        → row_line text table (row_at table n sheet_rate 0 k) ≡ clip_line k (sum_lengths table k) (ns_of c) (tick_of (sum_lengths table k) sheet_rate) (shown text c.uri)
    unfolding row_line
    row_line_lem k c clips h s =
        let uri = shown_part c.uri (uri_within text c s) (clip_word table k uri_start) (clip_word table k uri_end) (uri_from rest all k c clips h) in
        rw (first_turn k, length_from rest all k c clips h, uri)

    lines : (k : ℕ) (clips : List Clip) → From rest all k clips → All (SoundClipOf text) clips → k + length clips ≡ n
        → pass_lines text table (cursor_at table n sheet_rate 0 k) (length clips) ≡ clip_lines text k (sum_lengths table k) clips
    unfolding pass_lines clip_lines All
    lines k [] h s e = refl
    lines k (c ∷ clips) h s e =
        let step = pass_steps table n sheet_rate 0 g k (omega (arith, e)) in
        let here = row_line_lem k c clips h s.0 in
        let on = lines (suc k) clips (from_next rest all k c clips h) s.1 (omega (arith, e)) ∙ ap (λ (m : ℕ). clip_lines text (suc k) m clips) (sum_from rest all k c clips h) in
        rw step (λ i. here i ++ on i)

  -- ---- the whole
  module _ (s : All (SoundClipOf text) all) where
    in_time : total_of all ≤ largest_total → opened_sheet text table (starts table (length all) sheet_rate 0) ≡ given (sheet_of text all)
    unfolding pass_sheet sheet_of sum_lengths
    in_time h =
        let g : InTurn table (length all) sheet_rate 0
        = record { table = record { keeps = clock_keeps rest all text s; short = rw (total_sum rest all) h }; rate_low = omega arith; rate_high = omega arith; turn_high = omega arith } in
        let p = lines (length all) g 0 all (from_start rest all) s (from_none rest all) in
        rw (pass_opens table (length all) sheet_rate 0 g) (λ i. given (header_line ++ (p i ++ total_line (total_sum rest all i))))

    too_much : largest_total < total_of all → starts table (length all) sheet_rate 0 ≡ refused total_too_long 0
    unfolding starts in_turn at_rate
    too_much h = timed_11 table (length all) _ (clock_keeps rest all text s) (rw (total_sum rest all) h)

    pub words_sheet_lem : words_sheet text table (length all) ≡ or_refuse (leb (total_of all) largest_total) total_too_long 0 (given (sheet_of text all))
    unfolding words_sheet
    words_sheet_lem = go (leb (total_of all) largest_total) refl
      where
        go : (b : Bool) → leb (total_of all) largest_total ≡ b → opened_sheet text table (starts table (length all) sheet_rate 0) ≡ or_refuse b total_too_long 0 (given (sheet_of text all))
        go true e = in_time (leb-true (total_of all) largest_total e)
        go false e = ap (opened_sheet text table) (too_much (leb-false (total_of all) largest_total e))
