-- What was read can be written, with the tables as the reader left them: it keeps rule 9, and the lines are those of the list. Assumes nothing.
use Prim.Native.Nat.{ℕ}
use mathlib.Core.Path.{◌≡◌}
use mathlib.Core.List.{List}
use lib.ListN.{length}
use Rattle.tables.specs.Refusal.{given}
use Rattle.assembly.specs.Assembly.{Head}
use Rattle.media.specs.Calls.{steps_of, read, parse_media_playlist, clips_read, tags_read}
use Rattle.playlist.specs.Calls.{written_text}
use Rattle.roundtrip.specs.RoundTrip.{Writes}
use Rattle.roundtrip.proofs.Told.{clips_adjoin}
use Rattle.roundtrip.proofs.Held.{tables_hold}
use Rattle.roundtrip.proofs.Keeps.{reader_keeps}

module _ (text clips tags : List ℕ) (h : Head) (n m stop : ℕ) where
  pub reader_writes : parse_media_playlist text (length clips) (length tags) ≡ given (read h n m stop) → Writes text clips tags h n m
  unfolding written_text clips_read tags_read
  reader_writes e =
      let held = tables_hold text clips tags h n m stop e in
      record {
        keeps = rw (← held.head_read_lem, ← held.clips_many, ← held.tags_many) (reader_keeps text held.sound (clips_adjoin (steps_of text)) _ _);
        writes = rw (held.clips_hold, held.tags_hold);
      }
