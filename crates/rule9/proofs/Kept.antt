-- What a table that keeps rule 9 has: counts that fit, and of each clip and each unknown tag the facts behind the rule's tests. Assumes nothing.
use mathlib.Core.Path.{◌≡◌}
use mathlib.Core.Bool.{true}
use mathlib.Core.List.{List}
use Prim.Native.Nat.{ℕ, ◌+◌, ◌≤◌, ◌<◌}
use native.Mathlib.Omega.{arith}
use lib.Dec.{ltb}
use lib.ListN.{length, take, drop}
use borrow.Author.Tests.{ltb-true, eqb-true}
use Rattle.text.specs.Spans.{span_fits}
use Rattle.text.proofs.Laws.{and_left, and_right}
use Rattle.text.proofs.Spans.{span_within}
use Rattle.lengths.specs.Binary32.{seconds_bits}
use Rattle.tables.specs.Layout as layout
use Rattle.tables.specs.Table.{every, listed, clips_fit, tags_fit, clip_word, tag_word}
use Rattle.tables.proofs.Every.{every_at}
use Rattle.tables.proofs.Listed.{listed_run}
use Rattle.assembly.specs.Assembly.{Head}
use Rattle.records.specs.Records.{tag_at, tags_at}
use Rattle.rule9.specs.Rule9.{head_fits, bits_agree, flags_keep, plain_keep, range_keeps, map_keeps, clip_keeps, tag_keeps, tags_up_to, runs_adjoin, keeps_rule}
use Rattle.rule9.proofs.Runs.{adjoins, tags_step, tags_mono}

-- ---- a span within the text: as the rule tests it, and what that says
pub record SpanKept (text : List ℕ) (start end : ℕ) : Type 0 where
  pub fits : span_fits text start end ≡ true
  pub ordered : start ≤ end
  pub within : end ≤ length text

pub span_kept : (text : List ℕ) (start end : ℕ) → span_fits text start end ≡ true → SpanKept text start end
span_kept text start end e = let w = span_within text start end e in record { fits = e; ordered = w.0; within = w.1 }

-- ---- clip k
module _ (text t : List ℕ) (k : ℕ) where
  abbrev word : ℕ → ℕ
  word place = clip_word t k place

  pub record ClipKept : Type 0 where
    pub uri : SpanKept text (clip_word t k layout.uri_start) (clip_word t k layout.uri_end)
    pub length_below : clip_word t k layout.length_ns < layout.length_limit
    pub bits : clip_word t k layout.bits ≡ seconds_bits (clip_word t k layout.length_ns)
    pub title : SpanKept text (clip_word t k layout.title_start) (clip_word t k layout.title_end)
    pub flags : flags_keep (clip_word t k layout.flags) ≡ true
    pub range : range_keeps text t k ≡ true
    pub map_uri : SpanKept text (clip_word t k layout.map_uri_start) (clip_word t k layout.map_uri_end)
    pub map_list : SpanKept text (clip_word t k layout.map_list_start) (clip_word t k layout.map_list_end)

  pub clip_kept : clip_keeps text t k ≡ true → ClipKept
  unfolding clip_keeps plain_keep map_keeps
  clip_kept e =
      let plain : plain_keep text t k ≡ true = and_left _ _ e in
      let flags-on = and_right (plain_keep text t k) _ e in
      let length-on = and_right (span_fits text (word layout.uri_start) (word layout.uri_end)) _ plain in
      let bits-on = and_right (ltb (word layout.length_ns) layout.length_limit) _ length-on in
      let range-on = and_right (flags_keep (word layout.flags)) _ flags-on in
      let map : map_keeps text t k ≡ true = and_right (range_keeps text t k) _ range-on in
      let list_on = and_right (span_fits text (word layout.map_uri_start) (word layout.map_uri_end)) _ map in
      record {
        uri = span_kept text _ _ (and_left _ _ plain);
        length_below = ltb-true _ _ (and_left _ _ length-on);
        bits = eqb-true _ _ (and_left _ _ bits-on);
        title = span_kept text _ _ (and_right (bits_agree t k) _ bits-on);
        flags = and_left _ _ flags-on;
        range = and_left _ _ range-on;
        map_uri = span_kept text _ _ (and_left _ _ map);
        map_list = span_kept text _ _ (and_left _ _ list_on);
      }

-- ---- unknown tag k
module _ (text t : List ℕ) (k : ℕ) where
  pub record TagKept : Type 0 where
    pub name : SpanKept text (tag_word t k layout.name_start) (tag_word t k layout.name_end)
    pub rest : SpanKept text (tag_word t k layout.rest_start) (tag_word t k layout.rest_end)

  pub tag_kept : tag_keeps text t k ≡ true → TagKept
  unfolding tag_keeps
  tag_kept e = record {
    name = span_kept text _ _ (and_left _ _ e);
    rest = span_kept text _ _ (and_right (span_fits text (tag_word t k layout.name_start) (tag_word t k layout.name_end)) _ e);
  }

-- ---- the whole rule
module _ (text : List ℕ) (h : Head) (clips : List ℕ) (n : ℕ) (tags : List ℕ) (m : ℕ) where
  pub record Kept : Type 0 where
    pub clips_fit_lem : clips_fit clips n ≡ true
    pub tags_fit_lem : tags_fit tags m ≡ true
    pub head_fits_lem : head_fits text h ≡ true
    pub clip : (k : ℕ) → k < n → clip_keeps text clips k ≡ true
    pub tag : (k : ℕ) → k < m → tag_keeps text tags k ≡ true
    pub first : (k : ℕ) → k < n → clip_word clips k layout.first_tag ≡ tags_up_to clips k
    pub all_tags : tags_up_to clips n ≡ m

  pub rule_kept : keeps_rule text h clips n tags m ≡ true → Kept
  unfolding keeps_rule runs_adjoin
  rule_kept e =
      let e₁ = and_right (clips_fit clips n) _ e in
      let e₂ = and_right (tags_fit tags m) _ e₁ in
      let e₃ = and_right (head_fits text h) _ e₂ in
      let e₄ = and_right (every (clip_keeps text clips) n) _ e₃ in
      let e₅ = and_right (every (tag_keeps text tags) m) _ e₄ in
      record {
        clips_fit_lem = and_left _ _ e;
        tags_fit_lem = and_left _ _ e₁;
        head_fits_lem = and_left _ _ e₂;
        clip = λ k l. every_at (clip_keeps text clips) k n l (and_left _ _ e₃);
        tag = λ k l. every_at (tag_keeps text tags) k m l (and_left _ _ e₄);
        first = λ k l. eqb-true _ _ (every_at (adjoins clips) k n l (and_left _ _ e₅));
        all_tags = eqb-true _ _ (and_right (every (adjoins clips) n) _ e₅);
      }

  -- each clip's run lies within the tags
  pub run_within : Kept → (k : ℕ) → k < n → clip_word clips k layout.first_tag + clip_word clips k layout.tag_count ≤ m
  run_within r k l = omega (arith, r.first k l, r.all_tags, tags_step clips k, tags_mono clips (k + 1) n (omega arith))

  -- its tags, out of the list of all, are those records
  pub run_listed : Kept → (k : ℕ) → k < n → take (clip_word clips k layout.tag_count) (drop (clip_word clips k layout.first_tag) (tags_at tags m)) ≡ listed (tag_at tags) (clip_word clips k layout.first_tag) (clip_word clips k layout.tag_count)
  run_listed r k l = listed_run (tag_at tags) (clip_word clips k layout.first_tag) (clip_word clips k layout.tag_count) m (run_within r k l)
