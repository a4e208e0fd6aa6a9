-- The texts that a playlist is made of, of the records of lent tables. Assumes nothing.
use Rattle.std.specs.Prelude.{ℕ, List, map, take, drop}
use Rattle.tables.specs.Table.{listed}
use Rattle.assembly.specs.Assembly.{Clip}
use Rattle.records.specs.Records.{clip_at, tag_at, tags_at}
use Rattle.playlist.specs.Lines.{lines_text, tag_line_of, clip_lines, clips_lines}

-- n unknown tags from tag k on
abbrev pub tags_text : List ℕ → List ℕ → ℕ → ℕ → List ℕ
tags_text text tags k n = lines_text (map (tag_line_of text) (listed (tag_at tags) k n))

-- a run of m unknown tags: n of them from tag f on
abbrev pub run_text : List ℕ → List ℕ → ℕ → ℕ → ℕ → List ℕ
run_text text tags m f n = lines_text (map (tag_line_of text) (take n (drop f (tags_at tags m))))

-- a clip, of m unknown tags
abbrev pub clip_text : List ℕ → List ℕ → ℕ → Clip → List ℕ
clip_text text tags m c = lines_text (clip_lines text (tags_at tags m) c)

-- n clips from clip k on
abbrev pub clips_text : List ℕ → List ℕ → ℕ → List ℕ → ℕ → ℕ → List ℕ
clips_text text tags m clips k n = lines_text (clips_lines text (tags_at tags m) (listed (clip_at clips) k n))
