-- A clip that the table holds whole, and a range of its words that are zeros. Assumes nothing.
use Rattle.std.specs.Prelude.{ℕ, ◌+◌, ◌-◌, ◌*◌, ◌≤◌, Bool, List, eqb, length}
use Rattle.tables.specs.Layout as layout
use Rattle.tables.specs.Table.{every, clip_word}

-- the table holds clip k whole
abbrev pub Holds : List ℕ → ℕ → Type 0
Holds t k = (k + 1) * layout.clip_words ≤ length t

-- of clip k the words `from` up to, not including, `to` are zeros
unfoldable pub zero_words : List ℕ → ℕ → ℕ → ℕ → Bool
zero_words t k from to = every (λ i. eqb (clip_word t k (from + i)) 0) (to - from)
