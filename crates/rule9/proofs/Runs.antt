-- The runs of unknown tags, added up clip by clip, and one pass over the clips: what holds before clip k, and why each way out is the rule.
-- Rests on the laws of `every`. Assumes nothing.
use mathlib.Core.Path.{◌≡◌, refl, sym, ◌∙◌}
use mathlib.Core.Bool.{Bool, true, false, ◌&&◌, and_comm, and_assoc, and-false}
use mathlib.Core.List.{List}
use Prim.Native.Nat.{ℕ, ◌+◌, ◌-◌, ◌≤◌, ◌<◌}
use native.Mathlib.Nat.{le_refl}
use native.Mathlib.Decide.{le_ind}
use native.Mathlib.Numerals.{add-one}
use native.Mathlib.Omega.{arith}
use lib.Dec.{eqb}
use borrow.Author.Tests.{eq-eqb, ne_eqb}
use Rattle.tables.specs.Layout as layout
use Rattle.tables.specs.Table.{every, clips_fit, tags_fit, clip_word}
use Rattle.tables.proofs.Every.{every_none, every_step, every_fails}
use Rattle.assembly.specs.Assembly.{Head}
use Rattle.rule9.specs.Rule9.{head_fits, clip_keeps, tag_keeps, tags_up_to, runs_adjoin, keeps_rule}

module _ (t : List ℕ) where
  -- one run more
  pub tags_step : (k : ℕ) → tags_up_to t (k + 1) ≡ tags_up_to t k + clip_word t k layout.tag_count
  unfolding tags_up_to
  tags_step k = rw add-one

  -- more clips have no fewer tags
  pub tags_mono : (i j : ℕ) → i ≤ j → tags_up_to t i ≤ tags_up_to t j
  unfolding tags_up_to
  tags_mono i j h = le_ind (λ (m : ℕ). tags_up_to t i ≤ tags_up_to t m) (le_refl (tags_up_to t i)) (λ m k e. omega arith) j h

  -- clip k's run begins where the runs before it end
  abbrev pub adjoins : ℕ → Bool
  adjoins k = eqb (clip_word t k layout.first_tag) (tags_up_to t k)

-- ---- a pass over the clips
module _ (text t : List ℕ) (n m : ℕ) where
  abbrev pub clips_keep : Bool
  clips_keep = every (clip_keeps text t) n && runs_adjoin t n m

  -- before clip k: those before it keep the rule, and their runs end at `first`
  pub record Passed (first k : ℕ) : Type 0 where
    pub within : k ≤ n
    pub kept : every (clip_keeps text t) k ≡ true
    pub adjoined : every (adjoins t) k ≡ true
    pub sum : first ≡ tags_up_to t k
    pub room : first ≤ m

module _ {text t : List ℕ} {n m : ℕ} where
  pub passed_none : Passed text t n m 0 0
  unfolding tags_up_to
  passed_none = record { within = omega arith; kept = every_none _; adjoined = every_none _; sum = refl; room = omega arith }

  module _ {first k : ℕ} (p : Passed text t n m first k) where
    pub passed_clip : {start count : ℕ} → k < n → clip_keeps text t k ≡ true → start ≡ clip_word t k layout.first_tag → start ≡ first → count ≡ clip_word t k layout.tag_count → count ≤ m - first → Passed text t n m (first + count) (k + 1)
    passed_clip l h b a e r = record {
      within = omega arith;
      kept = every_step (clip_keeps text t) k p.kept h;
      adjoined = every_step (adjoins t) k p.adjoined (eq-eqb (clip_word t k layout.first_tag) (tags_up_to t k) (sym b ∙ a ∙ p.sum));
      sum = omega (arith, tags_step t k, p.sum);
      room = omega (arith, p.room);
    }

    -- a clip that does not keep the rule
    pub broken_clip : k < n → clip_keeps text t k ≡ false → clips_keep text t n m ≡ false
    broken_clip l h = rw (every_fails (clip_keeps text t) k n l h)

    -- a run that begins elsewhere
    pub broken_start : {start : ℕ} → k < n → start ≡ clip_word t k layout.first_tag → (start ≡ first → ⊥) → clips_keep text t n m ≡ false
    unfolding runs_adjoin
    broken_start {start} l b h =
        let apart : clip_word t k layout.first_tag ≡ tags_up_to t k → ⊥ = λ e. h (b ∙ e ∙ sym p.sum) in
        rw (every_fails (adjoins t) k n l (ne_eqb (clip_word t k layout.first_tag) (tags_up_to t k) apart)) (and-false (every (clip_keeps text t) n))

    -- a run that is longer than what is left: sums never fall
    pub broken_run : {count : ℕ} → k < n → count ≡ clip_word t k layout.tag_count → m - first < count → clips_keep text t n m ≡ false
    unfolding runs_adjoin
    broken_run {count} l e h =
        let apart : tags_up_to t n ≡ m → ⊥ = λ q. omega (arith, p.sum, p.room, tags_step t k, tags_mono t (k + 1) n (omega arith)) in
        rw (ne_eqb (tags_up_to t n) m apart, and-false (every (adjoins t) n)) (and-false (every (clip_keeps text t) n))

    -- past the last clip
    pub passed_end : n ≤ k → eqb first m ≡ clips_keep text t n m
    unfolding runs_adjoin
    passed_end l =
        let e : k ≡ n = omega (arith, p.within) in
        rw (← e, p.kept, p.adjoined, p.sum)

-- ---- the rule, in the order of the pass
pub rule_in_order : (text : List ℕ) (h : Head) (clips : List ℕ) (n : ℕ) (tags : List ℕ) (m : ℕ) → keeps_rule text h clips n tags m ≡ clips_fit clips n && (tags_fit tags m && (head_fits text h && (clips_keep text clips n m && every (tag_keeps text tags) m)))
unfolding keeps_rule
rule_in_order text h clips n tags m =
    rw (and_comm (every (tag_keeps text tags) m) (runs_adjoin clips n m), ← and_assoc (every (clip_keeps text clips) n) (runs_adjoin clips n m) (every (tag_keeps text tags) m))

-- a test that fails decides, and one that passes leaves it to the next
pub fails : {r a : Bool} (b : Bool) → r ≡ a → r ≡ false → false ≡ a && b
fails b e t = rw (sym e ∙ t)

pub passes : {r a b x : Bool} → r ≡ a → r ≡ true → x ≡ b → x ≡ a && b
passes e t h = rw (sym e ∙ t) h
