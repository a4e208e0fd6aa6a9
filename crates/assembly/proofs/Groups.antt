-- The clip in the making by the words of its groups: what the code holds after a tag, and lays down at a URI, are the words of what the rule makes.
-- By cases on the tag. Assumes nothing.
use mathlib.Core.Path.{◌≡◌, refl}
use mathlib.Core.Option.{Option, none, some}
use Prim.Native.Nat.{ℕ, ◌+◌, ◌≤◌}
use native.Mathlib.Omega.{arith}
use Rattle.text.specs.Nom.{Span}
use Rattle.text.specs.Util.{ByteRange, range}
use Rattle.lengths.specs.Duration.{ns, too_many_digits, extinf}
use Rattle.tags.specs.Tags.{ClipTag, timed, ranged, discontinuity, mapped, Tag, of_head, of_clip, unknown, comment, uri, left_out}
use Rattle.assembly.specs.Assembly.{Segment, segment_next, segment_after, clip}
use Rattle.assembly.specs.Words.{range_flags, clip_words_of}
use Rattle.assembly.specs.Inside.Making.{segment_words, told_words, words_after, record_words}

pub told_words_lem : (s : Segment) (t : ClipTag) → told_words (segment_words s) t ≡ segment_words (segment_next s t)
told_words_lem s (timed (extinf (ns x) title)) = refl
told_words_lem s (timed (extinf too_many_digits title)) = refl
told_words_lem s (ranged x) = refl
told_words_lem s discontinuity = refl
told_words_lem s (mapped x) = refl

pub words_after_lem : (s : Segment) (t : Tag) → words_after (segment_words s) t ≡ segment_words (segment_after s t)
words_after_lem s (of_head t) = refl
words_after_lem s (of_clip t) = told_words_lem s t
words_after_lem s (unknown t) = refl
words_after_lem s (comment t) = refl
words_after_lem s (uri u) = refl
words_after_lem s (left_out t) = refl

pub record_words_lem : (s : Segment) (u : Span) (f n : ℕ) → record_words u (segment_words s) f n ≡ clip_words_of (clip u s f n)
unfolding clip_words_of
record_words_lem s u f n = refl

-- a range adds at most its two flags
pub range_flags_le : (p o : ℕ) (r : Option ByteRange) → range_flags p o r ≤ p + o
range_flags_le p o none = omega arith
range_flags_le p o (some (range n none)) = omega arith
range_flags_le p o (some (range n (some x))) = omega arith
