-- Tables of the same list have the same float bits: the lengths agree, and each keeps rule 9, by which word 3 agrees with word 2. Assumes nothing.
use Prim.Native.Nat.{ℕ, zero, suc, ◌+◌, ◌≤◌, ◌<◌}
use mathlib.Core.Path.{◌≡◌, refl}
use mathlib.Core.Bool.{Bool, true, false}
use mathlib.Core.List.{List, map}
use native.Mathlib.Omega.{arith}
use lib.Dec.{ltb}
use borrow.Author.Tests.{ltb-true, ltb-false, eqb-true}
use Rattle.text.specs.Nom.{Span, span}
use Rattle.text.specs.BasicTags.{ExtTag}
use Rattle.text.specs.Spans.{shown, same_all, same_bytes}
use Rattle.text.proofs.Laws.{and_left, and_right}
use Rattle.lengths.specs.Binary32.{seconds_bits}
use Rattle.tables.specs.Layout as layout
use Rattle.tables.specs.Table.{listed, clip_word}
use Rattle.assembly.specs.Assembly.{Head}
use Rattle.records.specs.Records.{clip_at, clips_at}
use Rattle.records.specs.Same.{shown_head, shown_clip, shown_list, same_head, same_clip, same_list}
use Rattle.rule9.specs.Rule9.{keeps_rule}
use Rattle.rule9.proofs.Kept.{clip_kept, rule_kept}

-- the URI of clip j
abbrev uri_at : List ℕ → ℕ → Span
uri_at t j = span (clip_word t j layout.uri_start) (clip_word t j layout.uri_end)

module _ (text : List ℕ) (tags : List ExtTag) (a text' : List ℕ) (tags' : List ExtTag) (b : List ℕ) where
  abbrev same_at : ℕ → Bool
  same_at j = same_clip (shown_clip text tags (clip_at a j)) (shown_clip text' tags' (clip_at b j))

  -- n clips from clip j on
  abbrev SameFrom : ℕ → ℕ → Type 0
  SameFrom j n = same_all same_clip (map (shown_clip text tags) (listed (clip_at a) j n)) (map (shown_clip text' tags') (listed (clip_at b) j n)) ≡ true

  first_length : (j n : ℕ) → SameFrom j (suc n) → clip_word a j layout.length_ns ≡ clip_word b j layout.length_ns
  unfolding listed same_all clip_at
  first_length j n e =
      let here : same_at j ≡ true = and_left _ _ e in
      let uris = same_bytes (shown text (uri_at a j)) (shown text' (uri_at b j)) in
      eqb-true _ _ (and_left _ _ (and_right uris _ here))

  lengths_from : (j n : ℕ) → SameFrom j n → (i : ℕ) → j ≤ i → i < j + n → clip_word a i layout.length_ns ≡ clip_word b i layout.length_ns
  unfolding listed same_all
  lengths_from j zero e i l u = absurd (omega arith)
  lengths_from j (suc n) e i l u = go (ltb j i) refl (first_length j n e) (lengths_from (suc j) n (and_right (same_at j) _ e) i)
    where
      go : (c : Bool) → ltb j i ≡ c → clip_word a j layout.length_ns ≡ clip_word b j layout.length_ns
          → (suc j ≤ i → i < suc j + n → clip_word a i layout.length_ns ≡ clip_word b i layout.length_ns) → clip_word a i layout.length_ns ≡ clip_word b i layout.length_ns
      go true q here later = later (omega (arith, ltb-true j i q)) (omega arith)
      go false q here later = let z : i ≡ j = omega (arith, ltb-false j i q) in rw z here

-- the clips of the same list, each with its text, head and tags
module _ (n : ℕ) (text : List ℕ) (h : Head) (clips : List ℕ) (tags : List ExtTag) (text' : List ℕ) (h' : Head) (clips' : List ℕ) (tags' : List ExtTag) where
  pub same_lengths : same_list (shown_list text h (clips_at clips n) tags) (shown_list text' h' (clips_at clips' n) tags') ≡ true
      → (i : ℕ) → i < n → clip_word clips i layout.length_ns ≡ clip_word clips' i layout.length_ns
  unfolding shown_list same_list
  same_lengths e i l = lengths_from text tags clips text' tags' clips' 0 n (and_right (same_head (shown_head text h) (shown_head text' h')) _ e) i (omega arith) (omega arith)

pub bits_kept : (text : List ℕ) (h : Head) (clips : List ℕ) (n : ℕ) (tags : List ℕ) (m : ℕ) → keeps_rule text h clips n tags m ≡ true
    → (i : ℕ) → i < n → clip_word clips i layout.bits ≡ seconds_bits (clip_word clips i layout.length_ns)
bits_kept text h clips n tags m e i l = (clip_kept text clips i ((rule_kept text h clips n tags m e).clip i l)).bits
