-- The most records that a reading can need: a caller who lends tables of so many records is never refused by 7 or 8. Assumes nothing.
use Rattle.std.specs.Prelude.{ℕ, ◌+◌, ◌-◌, ◌/◌, length}
use Rattle.tables.specs.Layout.{text_limit}
use Rattle.verdict.specs.Calls.{header}

-- the fewest bytes of a clip: a URI of one byte and a line's end
abbrev pub least_clip : ℕ
least_clip = 2

-- the fewest bytes of an unknown tag: `#EXT-`, a name of one byte and a line's end
abbrev pub least_tag : ℕ
least_tag = 7

-- the most clips that a text within the limit has, behind `#EXTM3U`: the last needs no line's end
abbrev pub most_clips : ℕ
most_clips = (text_limit - length header + 1) / least_clip

-- the most unknown tags that belong to a clip
abbrev pub most_tags : ℕ
most_tags = (text_limit - length header) / least_tag
