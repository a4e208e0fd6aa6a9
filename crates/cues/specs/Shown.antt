-- The program `cues` (02, [3]): a cue file as text, byte for byte, or why it is refused. Assumes nothing.
use Rattle.std.specs.Prelude.{ℕ, zero, suc, List, [], ◌++◌, leb, length}
use Rattle.text.specs.Nom.{bytes}
use Rattle.text.specs.Spans.{shown}
use Rattle.tables.specs.Refusal.{Answer, given, or_refuse, text_too_long}
use Rattle.cue_file.specs.Format.{version1}
use Rattle.cue_file.specs.Read.{count_in, start_in, uri_in, judged}
use Rattle.printing.specs.Lines.{field}

-- the program's own size
abbrev pub file_size : ℕ
file_size = 393216

abbrev pub header_line : List ℕ
header_line = bytes "clip\tstart\turi\n"

-- "number, start, URI": the start in ns, tab between fields, the URI's bytes as they stand in the file
unfoldable pub cue_line : ℕ → ℕ → List ℕ → List ℕ
cue_line number start uri = field number ++ (field start ++ (uri ++ bytes "\n"))

-- so many clips from clip k on
unfoldable pub cue_lines : List ℕ → ℕ → ℕ → List ℕ
cue_lines file k zero = []
cue_lines file k (suc n) = cue_line k (start_in version1 file k) (shown file (uri_in version1 file k)) ++ cue_lines file (suc k) n

-- 1 by the program's own size; 19, 20, 21, 22; or the header and a line a clip
unfoldable pub shown_file : List ℕ → Answer (List ℕ)
shown_file file =
    or_refuse (leb (length file) file_size) text_too_long 0
    (judged version1 file (given (header_line ++ cue_lines file 0 (count_in version1 file))))
