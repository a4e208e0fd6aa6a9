-- The round trip by what the calls promise alone: `parse_media_playlist` reads a text, `write_to` writes the tables that it left, and
-- `parse_media_playlist` reads what was written. Assumes nothing.
use Rattle.std.specs.Prelude.{ℕ, ◌*◌, ◌≤◌, ◌<◌, ◌≡◌, true, List, length, take}
use Rattle.tables.specs.Layout as layout
use Rattle.tables.specs.Table.{clip_word}
use Rattle.tables.specs.Refusal.{Answer, given}
use Rattle.tables.specs.Layout.{text_limit}
use Rattle.assembly.specs.Assembly.{Head}
use Rattle.media.specs.Calls.{Read, read, ParsedAs}
use Rattle.records.specs.Records.{clips_at, tags_at}
use Rattle.records.specs.Same.{shown_list, same_list}
use Rattle.playlist.specs.Calls.{WrittenAs}
use Rattle.roundtrip.specs.Premises.{plain_uris, none_named_map}

-- what is asked: of the n clips and m tags that were read, of the k bytes that were written, and of the tables that are lent for reading these
pub record Asked (text clips tags : List ℕ) (n m k : ℕ) (clips₁ tags₁ : List ℕ) : Type 0 where
  pub uris : plain_uris text (clips_at clips n) ≡ true
  pub names : none_named_map text (tags_at tags m) ≡ true
  pub short : k ≤ text_limit
  pub clip_room : n * layout.clip_words ≤ length clips₁
  pub tag_room : m * layout.tag_words ≤ length tags₁

-- n clips and m tags of two tables agree, each with its text and its head: they are the same list, and word 3 is the same in each clip
pub record Agree (n m : ℕ) (text : List ℕ) (h : Head) (clips tags text' : List ℕ) (h' : Head) (clips' tags' : List ℕ) : Type 0 where
  pub same : same_list (shown_list text h (clips_at clips n) (tags_at tags m)) (shown_list text' h' (clips_at clips' n) (tags_at tags' m)) ≡ true
  pub bits : (i : ℕ) → i < n → clip_word clips i layout.bits ≡ clip_word clips' i layout.bits

-- through any view of the answers, so through the calls' own, `parse_answer` and `write_answer`
module _ {R S : Type 0} (readView : R → Answer Read) (writeView : S → Answer ℕ) where
  -- the three calls: a text is read with h, n clips and m tags; these are written, k bytes; and the first k bytes of the output are read, with tables of any size
  pub record ThreeCalls
      (text clips₀ tags₀ clips tags : List ℕ) (r : R) (h : Head) (n m stop : ℕ)
      (out₀ out : List ℕ) (s : S) (k : ℕ)
      (clips₁ tags₁ clips' tags' : List ℕ) (r' : R) : Type 0 where
    pub reads : ParsedAs readView text clips₀ tags₀ clips tags r
    pub accepted : readView r ≡ given (read h n m stop)
    pub writes : WrittenAs text h clips n tags m writeView out₀ out s
    pub wrote : writeView s ≡ given k
    pub reads_again : ParsedAs readView (take k out) clips₁ tags₁ clips' tags' r'

-- what the last of them answers: as many clips and tags, up to the end of the k bytes, and the tables agree
pub record ComesBack {R : Type 0} (readView : R → Answer Read) (n m k : ℕ) (text : List ℕ) (h : Head) (clips tags written clips' tags' : List ℕ) (r' : R) : Type 0 where
  pub head : Head
  pub answered : readView r' ≡ given (read head n m k)
  pub agree : Agree n m text h clips tags written head clips' tags'
