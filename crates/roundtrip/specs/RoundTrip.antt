-- What the round trip says: a list that was read can be written, and its text is read again, to its end, as the same list. Assumes nothing.
use Rattle.std.specs.Prelude.{ℕ, ◌≡◌, true, List, ◌++◌, length, drop}
use Rattle.tables.specs.Refusal.{given}
use Rattle.assembly.specs.Assembly.{Head}
use Rattle.assembly.specs.Words.{clips_words, tags_words}
use Rattle.media.specs.Calls.{read, parse_media_playlist, clips_read, tags_read}
use Rattle.rule9.specs.Rule9.{keeps_rule}
use Rattle.records.specs.Same.{shown_list, same_list}
use Rattle.playlist.specs.Lines.{playlist_text}
use Rattle.playlist.specs.Calls.{written_text}

-- the text that is written of what was read
abbrev pub written_of : List ℕ → Head → List ℕ
written_of text h = playlist_text text h (clips_read text) (tags_read text)

-- the lent tables as an accepted reading leaves them
abbrev pub clips_after : List ℕ → List ℕ → List ℕ
clips_after text clips = clips_words (clips_read text) ++ drop (length (clips_words (clips_read text))) clips

abbrev pub tags_after : List ℕ → List ℕ → List ℕ
tags_after text tags = tags_words (tags_read text) ++ drop (length (tags_words (tags_read text))) tags

-- with these tables the list keeps rule 9, and its text is what is written
pub record Writes (text clips tags : List ℕ) (h : Head) (n m : ℕ) : Type 0 where
  pub keeps : keeps_rule text h (clips_after text clips) n (tags_after text tags) m ≡ true
  pub writes : written_text text h (clips_after text clips) n (tags_after text tags) m ≡ written_of text h

-- with tables of these sizes the text is accepted, read to its end with as many clips and tags, and the list is the same
pub record ReadsBack (text : List ℕ) (clipRoom tagRoom : ℕ) (h : Head) (n m : ℕ) : Type 0 where
  pub head : Head
  pub accepted : parse_media_playlist (written_of text h) clipRoom tagRoom ≡ given (read head n m (length (written_of text h)))
  pub same :
      same_list
      (shown_list text h (clips_read text) (tags_read text))
      (shown_list (written_of text h) head (clips_read (written_of text h)) (tags_read (written_of text h)))
      ≡ true
