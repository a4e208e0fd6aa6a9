-- The parts of a reading's state, each by itself: what a tag makes of a part follows from that part alone. Assumes nothing.
use mathlib.Core.Path.{◌≡◌, refl}
use Rattle.tags.specs.Tags.{Tag}
use Rattle.assembly.specs.Assembly.{State, next, head_of, segment_of, counts_of, head_after, segment_after, counts_after}

module _ (s : State) (t : Tag) where
  pub head_next : head_of (next s t) ≡ head_after (head_of s) t
  unfolding next
  head_next = refl

  pub segment_next : segment_of (next s t) ≡ segment_after (segment_of s) t
  unfolding next
  segment_next = refl

  pub counts_next : counts_of (next s t) ≡ counts_after (counts_of s) t
  unfolding next
  counts_next = refl
