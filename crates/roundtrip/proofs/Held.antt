-- What an accepted reading leaves in its tables is the list that was read: its clips and its kept tags, by value out of their words. Assumes nothing.
use Prim.Native.Nat.{ℕ}
use mathlib.Core.Path.{◌≡◌, sym, ◌∙◌}
use mathlib.Core.Bool.{Bool}
use mathlib.Core.List.{List, [], ◌∷◌}
use mathlib.Core.Option.{Option, none, some}
use native.Mathlib.Omega.{arith}
use lib.ListN.{length}
use Rattle.text.specs.Nom.{Span, span, bytes, is_none_of}
use Rattle.text.specs.BasicTags.{ExtTag, ext}
use Rattle.tables.specs.Refusal.{given}
use Rattle.assembly.specs.Assembly.{Head, Clip, begin, last_of, clip_count, kept_tags}
use Rattle.assembly.proofs.Counts.{count_clips}
use Rattle.media.specs.Calls.{steps_of, read, parse_media_playlist, clips_read, tags_read}
use Rattle.records.specs.Records.{clips_at, tags_at}
use Rattle.records.proofs.Back.{All, RealPart, RealClip, RealTag, clips_back, tags_back}
use Rattle.roundtrip.specs.RoundTrip.{clips_after, tags_after}
use Rattle.roundtrip.proofs.Gives.{If, Shows}
use Rattle.roundtrip.proofs.Told.{kept_length}
use Rattle.roundtrip.proofs.Taken.{all_sound}
use Rattle.roundtrip.proofs.Guaranteed.{SoundClipOf, SoundTagOf, SoundList, list_sound}
use Rattle.roundtrip.proofs.Again.{head_read}
use Rattle.roundtrip.proofs.Accepted.{accepted_parts}

-- ---- a part that is there ends past 0
module _ (text : List ℕ) where
  part_real : (p : ℕ → Bool) (t : Option Span) → If (Shows p text) t → RealPart t
  part_real p none h = tt
  part_real p (some (span a b)) h = omega (arith, h.long)

  clips_real : (cs : List Clip) → All (SoundClipOf text) cs → All RealClip cs
  unfolding All
  clips_real [] h = tt
  clips_real (c ∷ cs) h = (part_real (is_none_of (bytes "\r\n,")) c.segment.title h.0.1.title, clips_real cs h.1)

  tags_real : (ts : List ExtTag) → All (SoundTagOf text) ts → All RealTag ts
  unfolding All
  tags_real [] h = tt
  tags_real (ext name rest ∷ ts) h = (part_real (is_none_of (bytes "\r\n")) rest h.0.0.1, tags_real ts h.1)

  count_read : clip_count (last_of begin (steps_of text)) ≡ length (clips_read text)
  unfolding clips_read
  count_read = omega (arith, count_clips begin (steps_of text))

  tags_count_read : kept_tags (last_of begin (steps_of text)) ≡ length (tags_read text)
  unfolding tags_read
  tags_count_read = sym (kept_length (steps_of text))

-- ---- what is known of an accepted reading's list: its head and counts are those of the answer, and it is what stands in the tables
pub record Held (text clips tags : List ℕ) (h : Head) (n m : ℕ) : Type 0 where
  pub sound : SoundList text
  pub head_read_lem : head_read text ≡ h
  pub clips_many : length (clips_read text) ≡ n
  pub tags_many : length (tags_read text) ≡ m
  pub clips_hold : clips_at clips n ≡ clips_read text
  pub tags_hold : tags_at tags m ≡ tags_read text

module _ (text clips tags : List ℕ) (h : Head) (n m stop : ℕ) where
  pub tables_hold : parse_media_playlist text (length clips) (length tags) ≡ given (read h n m stop) → Held text (clips_after text clips) (tags_after text tags) h n m
  tables_hold e =
      let k = accepted_parts text (length clips) (length tags) (read h n m stop) e in
      let q = k.answer in
      let c : clip_count (last_of begin (steps_of text)) ≡ n = cc in
      let g : kept_tags (last_of begin (steps_of text)) ≡ m = cc in
      let sound = list_sound text (all_sound text k.admits) in
      let cn : length (clips_read text) ≡ n = sym (count_read text) ∙ c in
      let gm : length (tags_read text) ≡ m = sym (tags_count_read text) ∙ g in
      record {
        sound = sound;
        head_read_lem = cc;
        clips_many = cn;
        tags_many = gm;
        clips_hold = rw (← cn) (clips_back (clips_read text) _ (clips_real text (clips_read text) sound.clips));
        tags_hold = rw (← gm) (tags_back (tags_read text) _ (tags_real text (tags_read text) sound.tags));
      }
