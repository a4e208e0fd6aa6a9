-- The rule, way out by way out: rule 9, what the calls weigh first, the same resource, a window by the one before it. Rests on the laws of fronts.
-- Assumes nothing.
use mathlib.Core.Path.{◌≡◌, refl, ap, ◌∙◌}
use mathlib.Core.Bool.{Bool, true, false, and-eq-true_iff}
use mathlib.Core.List.{List}
use mathlib.Core.Option.{some}
use Prim.Native.Nat.{ℕ, zero, suc, ◌-◌, ◌≤◌, ◌<◌}
use native.Mathlib.Omega.{arith}
use lib.ListN.{length}
use lib.Dec.{leb}
use borrow.Author.Tests.{le-leb, lt-leb, leb-true, le-ltb, lt-ltb}
use Rattle.text.specs.Spans.{span_in, shown, same_bytes}
use Rattle.tables.specs.Table.{every, clips_fit, has_flag}
use Rattle.tables.specs.Refusal.{Answer, refused, given, text_too_long, broken_table, no_such_clip, no_range_before}
use Rattle.tables.proofs.Every.{every_at}
use Rattle.tables.proofs.Refusals.{Front, front_or, front_then, front_as}
use Rattle.tables.specs.Layout.{text_limit}
use Rattle.window.specs.Window.{Window, none, is_sub_range, n_of, has_o, o_of, uri_of, range_from, same_resource, clip_keeps, keeps_rule, over_clips, window_of, window}
use Rattle.window.specs.After.{behind, follows, window_after}

-- a flag tested on a copy is the word's own
pub flag_is : (copy word flag : ℕ) (r : Bool) → copy ≡ word → r ≡ has_flag copy flag → has_flag word flag ≡ r
flag_is copy word flag r e f = cc

-- ---- rule 9
module _ (text t : List ℕ) (n : ℕ) where
  pub keeps_short : clips_fit t n ≡ false → keeps_rule text t n ≡ false
  unfolding keeps_rule
  keeps_short e = rw e

  pub keeps_each : clips_fit t n ≡ true → keeps_rule text t n ≡ every (clip_keeps text t) n
  unfolding keeps_rule
  keeps_each e = rw e

-- ---- 1, 9
pub record OverClips (text t : List ℕ) (n : ℕ) : Type 0 where
  pub short : length text ≤ text_limit
  pub keeps : keeps_rule text t n ≡ true

module _ (text t : List ℕ) (n : ℕ) where
  pub clips_front : Front (λ A x. over_clips text t n x) (OverClips text t n)
  unfolding over_clips
  clips_front =
      front_as _
      (λ h. record { short = leb-true (length text) text_limit h.0; keeps = h.1 })
      (λ g. (le-leb (length text) text_limit g.short, g.keeps))
      (front_then _ _ (front_or text_too_long 0 (leb (length text) text_limit)) (front_or broken_table 0 (keeps_rule text t n)))

  module _ {A : Type 0} (x : Answer A) where
    pub clips_1 : text_limit < length text → over_clips text t n x ≡ refused text_too_long 0
    unfolding over_clips
    clips_1 h = rw (lt-leb (length text) text_limit h)

    pub clips_9 : length text ≤ text_limit → keeps_rule text t n ≡ false → over_clips text t n x ≡ refused broken_table 0
    unfolding over_clips
    clips_9 h e = rw (le-leb (length text) text_limit h, e)

-- each clip of a table that passed
pub keeps_at : (text t : List ℕ) (n k : ℕ) → OverClips text t n → k < n → clip_keeps text t k ≡ true
unfolding keeps_rule
keeps_at text t n k g h = every_at (clip_keeps text t) k n h ((and-eq-true_iff (clips_fit t n) _).0 g.keeps).1

-- ---- "same URI bytes"
module _ (text t : List ℕ) (a b : ℕ) where
  pub other_first : span_in text (uri_of t a) ≡ false → same_resource text t a b ≡ false
  unfolding same_resource
  other_first e = rw e

  pub other_second : span_in text (uri_of t a) ≡ true → span_in text (uri_of t b) ≡ false → same_resource text t a b ≡ false
  unfolding same_resource
  other_second e f = rw (e, f)

  pub same_bytes_lem : span_in text (uri_of t a) ≡ true → span_in text (uri_of t b) ≡ true → same_resource text t a b ≡ same_bytes (shown text (uri_of t a)) (shown text (uri_of t b))
  unfolding same_resource
  same_bytes_lem e f = rw (e, f)

-- before the first clip there is none
pub follows_none : (text t : List ℕ) (clip : ℕ) → clip ≡ 0 → follows text t clip ≡ false
follows_none text t zero e = refl
follows_none text t (suc k) e = absurd (omega arith)

pub follows_last : (text t : List ℕ) (clip : ℕ) → (clip ≡ 0 → ⊥) → follows text t clip ≡ same_resource text t (clip - 1) clip
follows_last text t zero h = absurd (h refl)
follows_last text t (suc k) h = let i : k ≡ suc k - 1 = omega arith in ap (λ (a : ℕ). same_resource text t a (suc k)) i

-- ---- a window by the one before it
module _ (text t : List ℕ) (clip : ℕ) (before : Answer Window) where
  pub after_none : is_sub_range t clip ≡ false → window_after text t clip before ≡ given none
  unfolding window_after
  after_none e = rw e

  module _ (e : is_sub_range t clip ≡ true) where
    pub after_o : has_o t clip ≡ true → window_after text t clip before ≡ range_from (some (o_of t clip)) (n_of t clip)
    unfolding window_after
    after_o o = rw (e, o)

    pub after_16 : has_o t clip ≡ false → follows text t clip ≡ false → window_after text t clip before ≡ refused no_range_before 0
    unfolding window_after
    after_16 o f = rw (e, o, f)

    pub after_behind : has_o t clip ≡ false → follows text t clip ≡ true → window_after text t clip before ≡ behind before (n_of t clip)
    unfolding window_after
    after_behind o f = rw (e, o, f)

-- ---- the call, once 1 and 9 are passed
module _ (text t : List ℕ) (n clip : ℕ) (g : OverClips text t n) where
  pub window_14 : n ≤ clip → window text t n clip ≡ refused no_such_clip 0
  unfolding window
  window_14 h = (clips_front text t n).on _ g ∙ rw (le-ltb clip n h)

  pub window_given : clip < n → window text t n clip ≡ window_of text t clip
  unfolding window
  window_given h = (clips_front text t n).on _ g ∙ rw (lt-ltb clip n h)
