-- An accepted reading, part by part, and the other way. Assumes nothing.
use Prim.Native.Nat.{ℕ, ◌*◌}
use mathlib.Core.Path.{◌≡◌, refl}
use mathlib.Core.Bool.{true}
use mathlib.Core.List.{List}
use lib.Dec.{leb}
use Rattle.tables.specs.Layout.{clip_words, tag_words}
use Rattle.tables.specs.Refusal.{Answer, refused, given, clip_table_short, tag_table_short}
use Rattle.tables.proofs.Refusals.{front_or}
use Rattle.verdict.specs.Verdict.{Verdict, master, media}
use Rattle.verdict.specs.Calls.{admitted, and_then, verdict_of}
use Rattle.assembly.specs.Assembly.{begin, last_of, clip_count, kept_tags}
use Rattle.media.specs.Calls.{steps_of, stop_of, unless_master, unless_met, Read, read_from, parse_media_playlist}
use Rattle.media.proofs.Answered.{front_met}

-- what is known of a text whose reading was accepted with tables of these sizes
pub record Accepted (text : List ℕ) (clipRoom tagRoom : ℕ) (r : Read) : Type 0 where
  pub admits : admitted text ≡ given tt
  pub is_media : verdict_of text ≡ media
  pub clips_fit : leb (clip_count (last_of begin (steps_of text)) * clip_words) clipRoom ≡ true
  pub tags_fit : leb (kept_tags (last_of begin (steps_of text)) * tag_words) tagRoom ≡ true
  pub answer : read_from (last_of begin (steps_of text)) (stop_of text) ≡ r

and_then_lem : {A : Type 0} (x : Answer (Unit {0})) (y : Answer A) (a : A) → and_then x y ≡ given a → (x ≡ given tt) × (y ≡ given a)
and_then_lem (refused r p) y a e = (cc, cc)
and_then_lem (given tt) y a e = (refl, e)

unless_master_lem : {A : Type 0} (v : Verdict) (y : Answer A) (a : A) → unless_master v y ≡ given a → (v ≡ media) × (y ≡ given a)
unless_master_lem (master hash) y a e = (cc, cc)
unless_master_lem media y a e = (refl, e)

pub accepted_parts : (text : List ℕ) (clipRoom tagRoom : ℕ) (r : Read) → parse_media_playlist text clipRoom tagRoom ≡ given r → Accepted text clipRoom tagRoom r
unfolding parse_media_playlist
accepted_parts text clipRoom tagRoom r e =
    let s = last_of begin (steps_of text) in
    let a = and_then_lem (admitted text) _ r e in
    let b = unless_master_lem (verdict_of text) _ r a.1 in
    let c = (front_met (steps_of text)).passed _ _ b.1 in
    let d = (front_or clip_table_short 0 (leb (clip_count s * clip_words) clipRoom)).passed _ _ c.1 in
    let f = (front_or tag_table_short 0 (leb (kept_tags s * tag_words) tagRoom)).passed _ _ d.1 in
    let g = f.1 in
    record { admits = a.0; is_media = b.0; clips_fit = d.0; tags_fit = f.0; answer = cc }

pub parts_accepted : (text : List ℕ) (clipRoom tagRoom : ℕ) (r : Read) → Accepted text clipRoom tagRoom r
    → ((x : Answer Read) → unless_met (steps_of text) x ≡ x) → parse_media_playlist text clipRoom tagRoom ≡ given r
unfolding parse_media_playlist
parts_accepted text clipRoom tagRoom r k none-met = rw (k.admits, k.is_media, k.clips_fit, k.tags_fit, k.answer, none-met)
