-- The table of starts: each record is what the clock answers of its clip. Rests on the laws of records laid one after the other. Assumes nothing.
use mathlib.Core.Path.{◌≡◌, refl, sym, ap, ◌∙◌}
use mathlib.Core.Bool.{true, false}
use mathlib.Core.List.{List, [], ◌∷◌, ◌++◌}
use Prim.Native.Nat.{ℕ, ◌+◌, ◌*◌, ◌<◌}
use native.Mathlib.Omega.{arith}
use lib.ListN.{length, drop}
use Rattle.tables.specs.Layout.{start_words, start_ns, start_tick}
use Rattle.tables.specs.Table.{word_at, starts_fit, start_stored}
use Rattle.std.specs.Prelude.{Result}
use Rattle.tables.specs.declared.Refusal as refusalᵈ
use Rattle.tables.specs.Answers.{laid_of}
use Rattle.tables.specs.Refusal.{refused, given, output_short}
use Rattle.tables.proofs.Laying.{laid_to, record_laid, word_of}
use Rattle.clock.specs.Clock.{sum_lengths, moment_of, tick_of}
use Rattle.clock.specs.Calls as clock
use Rattle.clock.proofs.Calls.{InTurn, turn_front, start_ns_given, start_tick_given}
use Rattle.starts.specs.Table.{start_record, start_records, all_starts, StartsAs}

module _ (t : List ℕ) (n rate turn : ℕ) where
  two_words : (k : ℕ) → length (start_record t n rate turn k) ≡ start_words
  two_words k = refl

  -- one record more, with what the code has in hand
  pub record_next : (k whole before tick : ℕ) (out₀ out after : List ℕ) → starts_fit out₀ n ≡ true → k < n → whole ≡ sum_lengths t n → before ≡ sum_lengths t k → tick ≡ tick_of (turn * whole + before) rate
      → out ≡ laid_to (start_record t n rate turn) k out₀ → after ≡ start_stored out k (before ∷ tick ∷ []) → after ≡ laid_to (start_record t n rate turn) (k + 1) out₀
  unfolding moment_of
  record_next k whole before tick out₀ out after f h w b i o a = a ∙ (rw (i, o, w, b) (record_laid start_words (start_record t n rate turn) two_words n k out₀ f h))

  -- ---- the answers
  module _ (out : List ℕ) where
    pub starts_10 : InTurn t n rate turn → starts_fit out n ≡ false → all_starts t n rate turn out ≡ refused output_short 0
    unfolding all_starts
    starts_10 g e = (turn_front t n rate turn).on _ g ∙ rw e

    pub starts_given : InTurn t n rate turn → starts_fit out n ≡ true → all_starts t n rate turn out ≡ given n
    unfolding all_starts
    starts_given g e = (turn_front t n rate turn).on _ g ∙ rw e

-- ---- a clip's two words
module _ (t : List ℕ) (n rate turn : ℕ) where
  -- after a call that gives, they are what `start_ns` and `start_tick` answer of the clip
  module _ (out₀ out : List ℕ) (r : Result ℕ refusalᵈ.Refusal) (p : StartsAs t n rate turn out₀ out r) (clips : ℕ) (e : laid_of r ≡ given clips) (k : ℕ) (h : k < n) where
    given_too : all_starts t n rate turn out₀ ≡ given clips
    given_too = sym p.answered ∙ e

    in_the_turn : InTurn t n rate turn
    unfolding all_starts
    in_the_turn = ((turn_front t n rate turn).passed _ clips given_too).0

    out_is : out ≡ start_records t n rate turn n ++ drop (length (start_records t n rate turn n)) out₀
    out_is = rw given_too at p.out_after

    pub ns_laid : clock.start_ns t n k ≡ given (word_at start_words out k start_ns)
    ns_laid = start_ns_given t n k in_the_turn.table h ∙ ap given (sym (rw out_is (word_of start_words (start_record t n rate turn) (two_words t n rate turn) n k start_ns _ h (omega arith))))

    pub tick_laid : clock.start_tick t n rate turn k ≡ given (word_at start_words out k start_tick)
    tick_laid = start_tick_given t n rate turn k in_the_turn h ∙ ap given (sym (rw out_is (word_of start_words (start_record t n rate turn) (two_words t n rate turn) n k start_tick _ h (omega arith))))
