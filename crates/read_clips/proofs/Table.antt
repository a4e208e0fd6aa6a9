-- The table that the reader's call leaves: so many clips as were read, each sound, and their words at its front. Assumes nothing.
use Prim.Native.Nat.{ℕ}
use mathlib.Core.Path.{◌≡◌, ◌∙◌}
use mathlib.Core.List.{List}
use lib.ListN.{length}
use Rattle.tables.specs.Refusal.{given}
use Rattle.records.proofs.Back.{All}
use Rattle.assembly.specs.Assembly.{begin, last_of, clip_count}
use Rattle.media.specs.Calls.{steps_of, parse_media_playlist, clips_read}
use Rattle.media.specs.declared.Read as readᵈ
use Rattle.media.specs.Answers.{read_seen}
use Rattle.media.proofs.ThrownOut.{clips_counted}
use Rattle.roundtrip.proofs.Accepted.{accepted_parts}
use Rattle.roundtrip.proofs.Taken.{all_sound}
use Rattle.roundtrip.proofs.Guaranteed.{SoundClipOf, list_sound}

module _ (text : List ℕ) (clipRoom tagRoom : ℕ) (r : readᵈ.Read) (e : parse_media_playlist text clipRoom tagRoom ≡ given (read_seen r)) where
  pub clips_count : r.clips ≡ length (clips_read text)
  clips_count =
      let answer = (accepted_parts text clipRoom tagRoom (read_seen r) e).answer in
      let n : r.clips ≡ clip_count (last_of begin (steps_of text)) = cc in
      n ∙ clips_counted text

  pub clips_sound : All (SoundClipOf text) (clips_read text)
  clips_sound = (list_sound text (all_sound text (accepted_parts text clipRoom tagRoom (read_seen r) e).admits)).clips
