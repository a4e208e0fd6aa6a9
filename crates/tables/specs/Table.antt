-- A lent table of 64-bit words, so many to a record: when a count of records fits, what stands at a place of a record, the table after a record is stored,
-- and "every entry passes". Assumes nothing.
use Rattle.std.specs.Prelude.{Bool, true, cond, ◌&&◌, List, [], ◌∷◌, ◌++◌, ℕ, zero, suc, ◌+◌, ◌*◌, ◌/◌, ◌%◌, length, get_or, leb, eqb}
use Rattle.std.proofs.lemmas.List.Edits.{sets}
use Rattle.tables.specs.Layout as layout

-- each index below n passes
unfoldable pub every : (ℕ → Bool) → ℕ → Bool
every p zero = true
every p (suc n) = every p n && p n

-- n entries from entry k on
unfoldable pub listed : {A : Type 0} → (ℕ → A) → ℕ → ℕ → List A
listed at k zero = []
listed at k (suc n) = at k ∷ listed at (suc k) n

-- the records of the first entries, one after the other
unfoldable pub records : (ℕ → List ℕ) → ℕ → List ℕ
records at zero = []
records at (suc k) = records at k ++ at k

-- the count fits: n records of w words each are no more words than the table has
unfoldable pub fits : ℕ → List ℕ → ℕ → Bool
fits w t n = leb (n * w) (length t)

abbrev pub clips_fit : List ℕ → ℕ → Bool
clips_fit t n = fits layout.clip_words t n

abbrev pub tags_fit : List ℕ → ℕ → Bool
tags_fit t n = fits layout.tag_words t n

abbrev pub starts_fit : List ℕ → ℕ → Bool
starts_fit t n = fits layout.start_words t n

abbrev pub windows_fit : List ℕ → ℕ → Bool
windows_fit t n = fits layout.window_words t n

-- the word at a place of record k; 0 where the table has none
abbrev pub word_at : ℕ → List ℕ → ℕ → ℕ → ℕ
word_at w t k i = get_or t (k * w + i) 0

abbrev pub clip_word : List ℕ → ℕ → ℕ → ℕ
clip_word t k i = word_at layout.clip_words t k i

abbrev pub tag_word : List ℕ → ℕ → ℕ → ℕ
tag_word t k i = word_at layout.tag_words t k i

-- the words of clip k, in their order
abbrev pub clip_record : List ℕ → ℕ → List ℕ
clip_record t k = listed (clip_word t k) 0 layout.clip_words

-- the table with a record's words laid from record k's first word on, where record k fits; else the table as it was
unfoldable pub stored : ℕ → List ℕ → ℕ → List ℕ → List ℕ
stored w t k ws = cond (fits w t (k + 1)) (sets t (k * w) ws) t

abbrev pub clip_stored : List ℕ → ℕ → List ℕ → List ℕ
clip_stored t k ws = stored layout.clip_words t k ws

abbrev pub tag_stored : List ℕ → ℕ → List ℕ → List ℕ
tag_stored t k ws = stored layout.tag_words t k ws

abbrev pub start_stored : List ℕ → ℕ → List ℕ → List ℕ
start_stored t k ws = stored layout.start_words t k ws

abbrev pub window_stored : List ℕ → ℕ → List ℕ → List ℕ
window_stored t k ws = stored layout.window_words t k ws

-- a word of flags holds this one: divided by it, the word is odd
unfoldable pub has_flag : ℕ → ℕ → Bool
has_flag flags flag = eqb (flags / flag % 2) 1
