-- What the writer's checks say: 1, 9 and 11 as one front, each of them by itself, then 33 and 10. For any format. Assumes nothing.
use mathlib.Core.Path.{◌≡◌, ◌∙◌}
use mathlib.Core.Bool.{Bool, true, false, and-false, and-eq-true_iff}
use mathlib.Core.List.{List}
use Prim.Native.Nat.{ℕ, ◌≤◌, ◌<◌}
use lib.Dec.{leb}
use lib.ListN.{length}
use borrow.Author.Tests.{le-leb, lt-leb, leb-true}
use Rattle.text.specs.Spans.{span_in}
use Rattle.tables.specs.Layout as layout
use Rattle.tables.specs.Table.{every}
use Rattle.tables.specs.Refusal.{Answer, refused, given, text_too_long, broken_table, total_too_long, output_short, too_wide}
use Rattle.tables.proofs.Every.{every_fails}
use Rattle.tables.proofs.Refusals.{Front, front_or, front_then, front_as}
use Rattle.clock.specs.Clock as clock
use Rattle.cue_file.specs.Format.{Format, file_holds}
use Rattle.cue_file.specs.Write.{uri_of, cues_of, keeps_rule, list_keeps, written, cue_write}

-- a clip's span, as `every` tests it
abbrev pub span_passes : List ℕ → List ℕ → ℕ → Bool
span_passes text t k = span_in text (uri_of t k)

-- ---- 9
module _ (text t : List ℕ) (n : ℕ) where
  pub rule_parts : keeps_rule text t n ≡ true → (clock.keeps_rule t n ≡ true) × (every (span_passes text t) n ≡ true)
  unfolding keeps_rule
  rule_parts e = (and-eq-true_iff (clock.keeps_rule t n) (every (span_passes text t) n)).0 e

  pub rule_of : clock.keeps_rule t n ≡ true → every (span_passes text t) n ≡ true → keeps_rule text t n ≡ true
  unfolding keeps_rule
  rule_of e h = rw (e, h)

  pub rule_clock : clock.keeps_rule t n ≡ false → keeps_rule text t n ≡ false
  unfolding keeps_rule
  rule_clock e = rw e

  pub rule_span : (k : ℕ) → k < n → span_in text (uri_of t k) ≡ false → keeps_rule text t n ≡ false
  unfolding keeps_rule
  rule_span k h e = rw (every_fails (span_passes text t) k n h e) (and-false (clock.keeps_rule t n))

  -- ---- 1, 9, 11
  pub record Keeps : Type 0 where
    pub short : length text ≤ layout.text_limit
    pub rule : keeps_rule text t n ≡ true
    pub total : clock.sum_lengths t n ≤ clock.largest_total

  pub keeps_front : Front (λ A x. list_keeps text t n x) Keeps
  unfolding list_keeps
  keeps_front =
      front_as _
      (λ h. record {
        short = leb-true (length text) layout.text_limit h.0;
        rule = h.1.0;
        total = leb-true (clock.sum_lengths t n) clock.largest_total h.1.1;
      })
      (λ g. (le-leb (length text) layout.text_limit g.short, (g.rule, le-leb (clock.sum_lengths t n) clock.largest_total g.total)))
      (front_then _ _ (front_or text_too_long 0 (leb (length text) layout.text_limit))
      (front_then _ _ (front_or broken_table 0 (keeps_rule text t n)) (front_or total_too_long 0 (leb (clock.sum_lengths t n) clock.largest_total))))

  module _ {A : Type 0} (x : Answer A) where
    pub keeps_1 : layout.text_limit < length text → list_keeps text t n x ≡ refused text_too_long 0
    unfolding list_keeps
    keeps_1 h = rw (lt-leb (length text) layout.text_limit h)

    module _ (short : length text ≤ layout.text_limit) where
      pub keeps_9 : keeps_rule text t n ≡ false → list_keeps text t n x ≡ refused broken_table 0
      unfolding list_keeps
      keeps_9 e = rw (le-leb (length text) layout.text_limit short, e)

      pub keeps_11 : keeps_rule text t n ≡ true → clock.largest_total < clock.sum_lengths t n → list_keeps text t n x ≡ refused total_too_long 0
      unfolding list_keeps
      keeps_11 e h = rw (le-leb (length text) layout.text_limit short, e, lt-leb (clock.sum_lengths t n) clock.largest_total h)

  -- ---- 33, 10
  module _ (f : Format) (out : List ℕ) where
    pub record Writes : Type 0 where
      pub keeps : Keeps
      pub holds : file_holds f (cues_of text t n) ≡ true
      pub room : length (written text t f n) ≤ length out

    module _ (g : Keeps) where
      pub write_33 : file_holds f (cues_of text t n) ≡ false → cue_write text t f n out ≡ refused too_wide 0
      unfolding cue_write
      write_33 e = keeps_front.on _ g ∙ rw e

      pub write_10 : file_holds f (cues_of text t n) ≡ true → length out < length (written text t f n) → cue_write text t f n out ≡ refused output_short 0
      unfolding cue_write
      write_10 e h = keeps_front.on _ g ∙ rw (e, lt-leb (length (written text t f n)) (length out) h)

    pub write_given : Writes → cue_write text t f n out ≡ given (length (written text t f n))
    unfolding cue_write
    write_given g = keeps_front.on _ g.keeps ∙ rw (g.holds, le-leb (length (written text t f n)) (length out) g.room)

    -- what was given has passed
    pub write_passed : (m : ℕ) → cue_write text t f n out ≡ given m → Writes × (m ≡ length (written text t f n))
    unfolding cue_write
    write_passed m e =
        let long = length (written text t f n) in
        let fits = front_then _ _ (front_or too_wide 0 (file_holds f (cues_of text t n))) (front_or output_short 0 (leb long (length out))) in
        let p = (front_then _ _ keeps_front fits).passed (given long) m e in
        let q : given long ≡ given m = p.1 in
        (record { keeps = p.0.0; holds = p.0.1.0; room = leb-true long (length out) p.0.1.1 }, cc)
