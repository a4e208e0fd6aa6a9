-- What the writer weighs of a table whose list keeps its rule: its widest fields, and the file's size. Assumes nothing.
use Rattle.std.specs.Prelude.{Bool, ◌&&◌, List, ℕ, zero, suc, ◌+◌, ◌-◌, ◌*◌, leb}
use Rattle.tables.specs.Layout.{uri_start, uri_end}
use Rattle.tables.specs.Table.{every, clip_word}
use Rattle.cue_file.specs.Format.{version1, clip_width, trailer_width}

-- what a field of 16 bits holds
abbrev pub largest : ℕ
largest = 65535

module _ (t : List ℕ) where
  abbrev pub uri_length : ℕ → ℕ
  uri_length k = clip_word t k uri_end - clip_word t k uri_start

  -- the count and each URI length in 16 bits
  unfoldable pub fields_hold : ℕ → Bool
  fields_hold n = leb n largest && every (λ k. leb (uri_length k) largest) n

  unfoldable pub uris_size : ℕ → ℕ
  uris_size zero = 0
  uris_size (suc n) = uris_size n + uri_length n

  unfoldable pub size : ℕ → ℕ
  size n = n * clip_width version1 + (trailer_width version1 + uris_size n)
