-- The table of windows: each record is what the call answers of its clip. Rests on the laws of records laid one after the other. Assumes nothing.
use Rattle.std.specs.Prelude.{Result}
use mathlib.Core.Path.{◌≡◌, refl, sym, ◌∙◌}
use mathlib.Core.Bool.{true, false}
use mathlib.Core.List.{List, ◌++◌}
use Prim.Native.Nat.{ℕ, ◌+◌, ◌<◌}
use lib.ListN.{length, drop, get_or}
use Rattle.tables.specs.Layout.{window_words}
use Rattle.tables.specs.Table.{word_at, windows_fit, window_stored}
use Rattle.tables.specs.declared.Refusal as refusalᵈ
use Rattle.tables.specs.Answers.{laid_of}
use Rattle.tables.specs.Refusal.{Answer, refused, given, output_short}
use Rattle.tables.proofs.Laying.{laid_to, record_laid, word_of}
use Rattle.window.specs.Window.{Window, none, range, window_of, window}
use Rattle.window.proofs.Laws.{OverClips, clips_front, window_given}
use Rattle.windows.specs.Table.{window_record, record_of, window_records, all_windows, WindowsAs}

record_length : (a : Answer Window) → length (window_record a) ≡ window_words
record_length (refused r p) = refl
record_length (given none) = refl
record_length (given (range start end)) = refl

module _ (text t : List ℕ) where
  four_words : (k : ℕ) → length (record_of text t k) ≡ window_words
  four_words k = record_length (window_of text t k)

  -- one record more, with what the code has in hand
  pub record_next : (n k : ℕ) (w : Answer Window) (ws out₀ out after : List ℕ) → windows_fit out₀ n ≡ true → k < n → w ≡ window_of text t k → ws ≡ window_record w
      → out ≡ laid_to (record_of text t) k out₀ → after ≡ window_stored out k ws → after ≡ laid_to (record_of text t) (k + 1) out₀
  record_next n k w ws out₀ out after f h i j o a = a ∙ (rw (j, i, o) (record_laid window_words (record_of text t) four_words n k out₀ f h))

  -- ---- the answers
  module _ (n : ℕ) (out : List ℕ) where
    pub windows_10 : OverClips text t n → windows_fit out n ≡ false → all_windows text t n out ≡ refused output_short 0
    unfolding all_windows
    windows_10 g e = (clips_front text t n).on _ g ∙ rw e

    pub windows_given : OverClips text t n → windows_fit out n ≡ true → all_windows text t n out ≡ given n
    unfolding all_windows
    windows_given g e = (clips_front text t n).on _ g ∙ rw e

-- ---- a clip's four words
module _ (text t : List ℕ) where
  -- after a call that gives, they are what `window` answers of the clip
  module _ (n : ℕ) (out₀ out : List ℕ) (r : Result ℕ refusalᵈ.Refusal) (p : WindowsAs text t n out₀ out r) (clips : ℕ) (e : laid_of r ≡ given clips) (k : ℕ) (h : k < n) where
    given_too : all_windows text t n out₀ ≡ given clips
    given_too = sym p.answered ∙ e

    over_clips : OverClips text t n
    unfolding all_windows
    over_clips = ((clips_front text t n).passed _ clips given_too).0

    out_is : out ≡ window_records text t n ++ drop (length (window_records text t n)) out₀
    out_is = rw given_too at p.out_after

    pub window_laid : (i : ℕ) → i < window_words → word_at window_words out k i ≡ get_or (window_record (window text t n k)) i 0
    window_laid i l = rw (out_is, window_given text t n k over_clips h) (word_of window_words (record_of text t) (four_words text t) n k i _ h l)
