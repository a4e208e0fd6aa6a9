-- A clip with no map, no discontinuity and no unknown tags: how its words tell, and its lines. Assumes nothing.
use Rattle.std.specs.Prelude.{ℕ, ◌+◌, ◌*◌, ◌≤◌, Bool, ◌&&◌, List, ◌++◌, eqb, ltb, length}
use Rattle.text.specs.Nom.{span}
use Rattle.text.specs.Spans.{shown}
use Rattle.tables.specs.Layout as layout
use Rattle.tables.specs.Table.{clip_word}
use Rattle.records.specs.Records.{range_at}
use Rattle.playlist.specs.Lines.{byte_range_line, extinf_line, uri_line, line_bytes, line_if, lines_text}

-- the table holds clip k whole
abbrev pub Holds : List ℕ → ℕ → Type 0
Holds t k = (k + 1) * layout.clip_words ≤ length t

-- no flags but those of a range, which are the lowest, and no unknown tags
abbrev pub is_plain : List ℕ → ℕ → Bool
is_plain t k = ltb (clip_word t k layout.flags) layout.has_discontinuity && eqb (clip_word t k layout.tag_count) 0

-- a range, if any; length and title; URI
abbrev pub plain_text : List ℕ → List ℕ → ℕ → List ℕ
plain_text text t k =
    lines_text (line_if byte_range_line (range_at (clip_word t k layout.flags) layout.has_range layout.has_range_offset (clip_word t k layout.range_length) (clip_word t k layout.range_offset)))
    ++ (line_bytes (extinf_line (clip_word t k layout.length_ns) (shown text (span (clip_word t k layout.title_start) (clip_word t k layout.title_end))))
    ++ line_bytes (uri_line (shown text (span (clip_word t k layout.uri_start) (clip_word t k layout.uri_end)))))
