-- 01, "Thrown out": no reader that meets the promise refuses everything, always gives an empty list, takes the file in one step, or invents its counts.
-- Assumes nothing.
use Prim.Native.Nat.{ℕ, ◌≤◌}
use mathlib.Core.Path.{◌≡◌, refl, ◌∙◌, ap}
use mathlib.Core.List.{List, []}
use native.Mathlib.Omega.{arith}
use lib.ListN.{length, get_or, length-take}
use Rattle.text.specs.Nom.{bytes}
use Rattle.tables.specs.Refusal.{Refusal, Answer, refused, given, no_header}
use Rattle.assembly.specs.Assembly.{begin, last_of, tags_of, Clip, clip_count, kept_tags}
use Rattle.text.specs.BasicTags.{ExtTag}
use Rattle.media.specs.Calls.{steps_of, Read, parse_media_playlist, clips_read, tags_read}
use Rattle.media.specs.Edges.{Outcome, outcome, outcome_of, reading, readings, expected, edges}
use Rattle.assembly.proofs.Counts.{count_clips, kept}

-- the third edge, with two clips
abbrev two : List ℕ
two = bytes "#EXTM3U\n#EXTINF:9,a,b\nx\n"

two_read : reading two ≡ get_or expected 2 (refused no_header 0)
unfolding readings
two_read = ap (λ (l : List (Answer Outcome)). get_or l 2 (refused no_header 0)) edges

-- "a reader that refuses everything"
pub not_all_refused : ((t : List ℕ) → (r : Refusal) × (p : ℕ) × (reading t ≡ refused r p)) → ⊥
not_all_refused h =
    let w : reading two ≡ refused (h two).0 (h two).1 = (h two).2 in
    let z : ◌≡◌ {A = ℕ} 0 1 = cc two_read in
    omega arith

abbrev shown : Answer Outcome → ℕ
shown (refused r p) = 0
shown (given (outcome a cs bs ts)) = length cs

shown_none : (a : Answer Read) (ts : List ExtTag) → shown (outcome_of a [] ts) ≡ 0
shown_none (refused r p) ts = refl
shown_none (given a) ts = refl

-- "one that always returns an empty list"
pub not_always_empty : ((t : List ℕ) → clips_read t ≡ []) → ⊥
unfolding reading
not_always_empty h =
    let a : Answer Read = parse_media_playlist two 1024 128 in
    let ts : List ExtTag = tags_read two in
    let e : shown (outcome_of a (clips_read two) ts) ≡ 2 = ap shown two_read in
    let f : shown (outcome_of a (clips_read two) ts) ≡ 0 = ap (λ (cs : List Clip). shown (outcome_of a cs ts)) (h two) ∙ shown_none a ts in
    omega (arith, e, f)

-- "an invented clip or tag count": the counts are those of the clips and of the tags kept
pub clips_counted : (text : List ℕ) → clip_count (last_of begin (steps_of text)) ≡ length (clips_read text)
unfolding clips_read
clips_counted text = omega (arith, count_clips begin (steps_of text))

pub tags_counted : (text : List ℕ) → kept_tags (last_of begin (steps_of text)) ≡ length (tags_read text)
unfolding tags_read
tags_counted text =
    let k : kept_tags (last_of begin (steps_of text)) ≤ length (tags_of (steps_of text)) = omega (arith, kept begin (steps_of text)) in
    omega (arith, length-take (kept_tags (last_of begin (steps_of text))) (tags_of (steps_of text)))
