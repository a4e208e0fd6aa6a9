-- What a reading counts: its clips are the records that it makes, its kept tags at most the tags that it meets. By cases on a tag, then by induction on
-- the steps. Assumes nothing.
use mathlib.Core.Path.{◌≡◌, refl}
use mathlib.Core.List.{List, [], ◌∷◌}
use Prim.Native.Nat.{ℕ, ◌+◌, ◌≤◌}
use native.Mathlib.Omega.{arith}
use lib.ListN.{length, length-append}
use Rattle.tags.specs.Tags.{Tag, of_head, of_clip, unknown, comment, uri, left_out, Taken, took}
use Rattle.assembly.specs.Assembly.{State, next, clip_in, tag_in, last_of, clips_of, tags_of, counts, counts_of, clip_count, kept_tags}

-- the unknown tags so far: of the clips, and since
abbrev pub met_tags : State → ℕ
met_tags s = s.counts_of.kept + s.counts_of.since

-- the counts of a state, one by one
pub counts_back : {c f p : ℕ} (s : State) → counts c f p ≡ counts_of s → (c ≡ clip_count s) × (f ≡ kept_tags s) × (f + p ≡ met_tags s)
counts_back s e = (cc e, cc e, cc e)

pub next_clips : (s : State) (t : Tag) → clip_count (next s t) ≡ clip_count s + length (clip_in s t)
unfolding next
next_clips s (of_head t) = omega arith
next_clips s (of_clip t) = omega arith
next_clips s (unknown t) = omega arith
next_clips s (comment t) = omega arith
next_clips s (uri u) = refl
next_clips s (left_out t) = omega arith

pub next_tags : (s : State) (t : Tag) → met_tags (next s t) ≡ met_tags s + length (tag_in t)
unfolding next
next_tags s (of_head t) = omega arith
next_tags s (of_clip t) = omega arith
next_tags s (unknown t) = omega arith
next_tags s (comment t) = omega arith
next_tags s (uri u) = omega arith
next_tags s (left_out t) = omega arith

pub clip_in_one : (s : State) (t : Tag) → length (clip_in s t) ≤ 1
clip_in_one s (of_head t) = omega arith
clip_in_one s (of_clip t) = omega arith
clip_in_one s (unknown t) = omega arith
clip_in_one s (comment t) = omega arith
clip_in_one s (uri u) = omega arith
clip_in_one s (left_out t) = omega arith

pub tag_in_one : (t : Tag) → length (tag_in t) ≤ 1
tag_in_one (of_head t) = omega arith
tag_in_one (of_clip t) = omega arith
tag_in_one (unknown t) = omega arith
tag_in_one (comment t) = omega arith
tag_in_one (uri u) = omega arith
tag_in_one (left_out t) = omega arith

pub count_clips : (s : State) (ts : List Taken) → clip_count (last_of s ts) ≡ clip_count s + length (clips_of s ts)
unfolding last_of clips_of
count_clips s [] = omega arith
count_clips s (took at t ∷ ts) = rw length-append (omega (arith, count_clips (next s t) ts, next_clips s t))

pub count_tags : (s : State) (ts : List Taken) → met_tags (last_of s ts) ≡ met_tags s + length (tags_of ts)
unfolding last_of tags_of
count_tags s [] = omega arith
count_tags s (took at t ∷ ts) = rw length-append (omega (arith, count_tags (next s t) ts, next_tags s t))

pub kept_met : (s : State) → kept_tags s ≤ met_tags s
kept_met s = omega arith

-- what is kept was met
pub kept : (s : State) (ts : List Taken) → kept_tags (last_of s ts) ≤ met_tags s + length (tags_of ts)
kept s ts = omega (arith, kept_met (last_of s ts), count_tags s ts)
