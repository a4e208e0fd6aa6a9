-- What a step lays into the tables: its clip's record at the count of clips, its unknown tag's at the count of tags if it is kept, and what the steps
-- after it lay, behind that. Rests on the records' lengths and on the counts. Assumes nothing.
use mathlib.Core.Path.{◌≡◌, refl}
use mathlib.Core.Bool.{Bool, true, false, cond}
use mathlib.Core.List.{List, [], ◌∷◌, ◌++◌, append-nil}
use Prim.Native.Nat.{ℕ, zero, suc, ◌+◌, ◌-◌, ◌*◌, ◌≤◌}
use native.Mathlib.Nat.{sub-zero}
use native.Mathlib.Omega.{arith}
use lib.Dec.{ltb}
use lib.ListN.{length, take, length-take}
use lib.Seq.{sets, take-nil}
use borrow.Author.Tests.{ltb-true, ltb-false}
use Rattle.text.specs.BasicTags.{ExtTag}
use Rattle.tables.specs.Layout.{clip_words, tag_words}
use Rattle.tables.specs.Table.{tag_stored}
use Rattle.tables.proofs.Records.{words_fit}
use Rattle.tables.proofs.Sets.{sets_append, stored_fits}
use Rattle.tags.specs.Tags.{Tag, of_head, of_clip, unknown, comment, uri, left_out, Taken, took}
use Rattle.assembly.specs.Assembly.{State, next, clip, clip_in, tag_in, clips_of, tags_of, segment_of, clip_count}
use Rattle.assembly.specs.Words.{tag_words_of, clips_words, tags_words}
use Rattle.assembly.proofs.Groups.{words_after_lem, record_words_lem}
use Rattle.assembly.proofs.Records.{clips_words_length, tags_words_length, clips_words_one, tags_words_one, clips_words_append, tags_words_append}
use Rattle.assembly.proofs.Counts.{met_tags, next_clips, next_tags}
use Rattle.media.specs.Inside.Passes.{held_of, held_after, clips_put, tags_put}

take_split : {A : Type 0} (n : ℕ) (a b : List A) → take n (a ++ b) ≡ take n a ++ take (n - length a) b
take_split n [] b = rw (take-nil n, sub-zero)
take_split zero (x ∷ a) b = let e : 0 - length (x ∷ a) ≡ 0 = omega arith in rw e
take_split (suc n) (x ∷ a) b = let e : suc n - suc (length a) ≡ n - length a = omega arith in rw (e, take_split n a b)

-- what is held after a tag
pub held_next : (s : State) (t : Tag) → held_after (held_of s) t ≡ held_of (next s t)
unfolding next
held_next s t = rw words_after_lem

-- ---- what a tag adds, where there is room for it
module _ (s : State) where
  abbrev ClipPut : Tag → List ℕ → Type 0
  ClipPut t l = clips_put (held_of s) t l ≡ sets l (clip_count s * clip_words) (clips_words (clip_in s t))

  pub clip_put : (t : Tag) (l : List ℕ) → clip_count s * clip_words + length (clips_words (clip_in s t)) ≤ length l → ClipPut t l
  unfolding clips_words
  clip_put (of_head t) l room = refl
  clip_put (of_clip t) l room = refl
  clip_put (unknown t) l room = refl
  clip_put (comment t) l room = refl
  clip_put (uri u) l room =
      let c = clip u (segment_of s) s.counts_of.kept s.counts_of.since in
      let fits = words_fit clip_words (clip_count s + 1) l (omega (arith, room, clips_words_length (c ∷ []))) in
      rw (clips_words_one, ← record_words_lem (segment_of s) u s.counts_of.kept s.counts_of.since) (stored_fits _ _ _ _ fits)
  clip_put (left_out t) l room = refl

  -- of the tags only the first m are kept
  module _ (m : ℕ) (l : List ℕ) (room : m * tag_words ≤ length l) where
    abbrev TagPut : Tag → Type 0
    TagPut t = tags_put (held_of s) m t l ≡ sets l (met_tags s * tag_words) (tags_words (take (m - met_tags s) (tag_in t)))

    one_put : (t : ExtTag) (more : Bool) → ltb (met_tags s) m ≡ more
        → cond more (tag_stored l (met_tags s) (tag_words_of t)) l ≡ sets l (met_tags s * tag_words) (tags_words (take (m - met_tags s) (t ∷ [])))
    unfolding tags_words
    one_put t true q =
        let h = ltb-true (met_tags s) m q in
        let e : m - met_tags s ≡ suc (m - met_tags s - 1) = omega arith in
        rw (e, take-nil (m - met_tags s - 1), tags_words_one) (stored_fits _ _ _ _ (words_fit tag_words (met_tags s + 1) l (omega arith)))
    one_put t false q = let e : m - met_tags s ≡ 0 = omega (arith, ltb-false (met_tags s) m q) in rw e

    pub tag_put : (t : Tag) → TagPut t
    unfolding tags_words
    tag_put (of_head t) = rw take-nil
    tag_put (of_clip t) = rw take-nil
    tag_put (unknown t) = one_put t (ltb (met_tags s) m) refl
    tag_put (comment t) = rw take-nil
    tag_put (uri u) = rw take-nil
    tag_put (left_out t) = rw take-nil

-- ---- what a step lays, and what the steps after it do
module _ (s : State) (at : ℕ) (t : Tag) (ts : List Taken) where
  pub clips_took : clips_words (clips_of s (took at t ∷ ts)) ≡ clips_words (clip_in s t) ++ clips_words (clips_of (next s t) ts)
  unfolding clips_of
  clips_took = clips_words_append (clip_in s t) (clips_of (next s t) ts)

  pub tags_took : (m : ℕ) → tags_words (take (m - met_tags s) (tags_of (took at t ∷ ts))) ≡ tags_words (take (m - met_tags s) (tag_in t)) ++ tags_words (take (m - met_tags (next s t)) (tags_of ts))
  unfolding tags_of
  tags_took m =
      let e : m - met_tags s - length (tag_in t) ≡ m - met_tags (next s t) = omega (arith, next_tags s t) in
      rw (take_split (m - met_tags s) (tag_in t) (tags_of ts), e) (tags_words_append (take (m - met_tags s) (tag_in t)) (take (m - met_tags (next s t)) (tags_of ts)))

  -- the step's clip at the count of clips, what is left behind it
  pub clips_lay : (l : List ℕ) → sets l (clip_count s * clip_words) (clips_words (clips_of s (took at t ∷ ts)))
      ≡ sets (sets l (clip_count s * clip_words) (clips_words (clip_in s t))) (clip_count (next s t) * clip_words) (clips_words (clips_of (next s t) ts))
  clips_lay l =
      let e : clip_count s * clip_words + length (clips_words (clip_in s t)) ≡ clip_count (next s t) * clip_words = omega (arith, clips_words_length (clip_in s t), next_clips s t) in
      rw (clips_took, sets_append, e)

  -- the step's tag at the count of tags, what is left behind it
  pub tags_lay : (l : List ℕ) (m : ℕ) → sets l (met_tags s * tag_words) (tags_words (take (m - met_tags s) (tags_of (took at t ∷ ts))))
      ≡ sets (sets l (met_tags s * tag_words) (tags_words (take (m - met_tags s) (tag_in t)))) (met_tags (next s t) * tag_words) (tags_words (take (m - met_tags (next s t)) (tags_of ts)))
  unfolding tags_words
  tags_lay l m = rw (tags_took m) (go (m - met_tags (next s t)) refl)
    where
      w : List ℕ
      w = tags_words (take (m - met_tags s) (tag_in t))

      go : (k : ℕ) → m - met_tags (next s t) ≡ k → sets l (met_tags s * tag_words) (w ++ tags_words (take k (tags_of ts)))
          ≡ sets (sets l (met_tags s * tag_words) w) (met_tags (next s t) * tag_words) (tags_words (take k (tags_of ts)))
      go zero z = rw append-nil
      go (suc k) z =
          let e : met_tags s * tag_words + length w ≡ met_tags (next s t) * tag_words = omega (arith, tags_words_length (take (m - met_tags s) (tag_in t)), length-take (m - met_tags s) (tag_in t), next_tags s t) in
          rw (sets_append, e)
