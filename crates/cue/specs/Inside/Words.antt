-- The file that the writer's call makes of a table's words, or why it makes none. Assumes nothing.
use Rattle.std.specs.Prelude.{ℕ, List}
use Rattle.tables.specs.Refusal.{Answer, refused, given}
use Rattle.cue_file.specs.Format.{version1}
use Rattle.cue_file.specs.Write.{written, cue_write}

abbrev pub filed : Answer ℕ → List ℕ → Answer (List ℕ)
filed (refused r p) file = refused r p
filed (given n) file = given file

abbrev pub words_file : List ℕ → List ℕ → ℕ → List ℕ → Answer (List ℕ)
words_file text t n out = filed (cue_write text t version1 n out) (written text t version1 n)
