-- A list that was read, and that keeps the premises, is clean: each of its lines can be written and read again. Assumes nothing.
use Prim.Native.Nat.{ℕ, zero, suc}
use mathlib.Core.Path.{◌≡◌}
use mathlib.Core.Bool.{Bool, true, not}
use mathlib.Core.List.{List, [], ◌∷◌}
use mathlib.Core.Option.{Option, none, some}
use lib.ListN.{drop}
use borrow.Author.Tests.{not-true}
use Rattle.text.specs.Nom.{Span, bytes, is_none_of, begins}
use Rattle.text.specs.BasicTags.{ExtTag, PlaylistType, event, vod, other}
use Rattle.text.proofs.Laws.{and_left, and_right}
use Rattle.text.proofs.Ahead.{Every}
use Rattle.attributes.specs.ExtMap.{Map, ext_map}
use Rattle.assembly.specs.Assembly.{Head, Clip}
use Rattle.text.specs.Spans.{shown}
use Rattle.playlist.specs.Lines.{map_line_of, tag_line_of, title_text}
use Rattle.records.proofs.Back.{All}
use Rattle.roundtrip.specs.Premises.{all, plain_uri, plain_uris, not_named_map, none_named_map}
use Rattle.roundtrip.proofs.Said.{Clean}
use Rattle.roundtrip.proofs.Gives.{If, Shows}
use Rattle.roundtrip.proofs.Values.{SoundType, SoundMap}
use Rattle.roundtrip.proofs.Unknown.{some_shown, passes_shown}
use Rattle.roundtrip.proofs.Told.{OtherSaid, TypeOther, TitleSome, TitlesSome}
use Rattle.roundtrip.proofs.Fitting.{CleanType, CleanHead, CleanClip}
use Rattle.roundtrip.proofs.Guaranteed.{all_take, SoundHeadOf, SoundClipOf, SoundTagOf}

-- ---- the premises, entry by entry
all_each : {A : Type 0} (p : A → Bool) (xs : List A) → all p xs ≡ true → All (λ a. p a ≡ true) xs
unfolding all All
all_each p [] e = tt
all_each p (a ∷ xs) e = (and_left (p a) (all p xs) e, all_each p xs (and_right (p a) (all p xs) e))

-- ---- both of two, for each; and what follows from both
all_both : {A : Type 0} (P Q R : A → Type 0) → ((a : A) → P a → Q a → R a) → (xs : List A) → All P xs → All Q xs → All R xs
unfolding All
all_both P Q R f [] h k = tt
all_both P Q R f (a ∷ xs) h k = (f a h.0 k.0, all_both P Q R f xs h.1 k.1)

pub all_drop : {A : Type 0} (P : A → Type 0) (n : ℕ) (xs : List A) → All P xs → All P (drop n xs)
unfolding All
all_drop P zero xs h = h
all_drop P (suc n) [] h = tt
all_drop P (suc n) (x ∷ xs) h = all_drop P n xs h.1

module _ (text : List ℕ) where
  -- ---- the head
  type_of : (t : PlaylistType) → SoundType text t → CleanType text t
  type_of event h = tt
  type_of vod h = tt
  type_of (other s) h = (some_shown (is_none_of (bytes "\r\n")) text s h.0, passes_shown (is_none_of (bytes "\r\n")) text s h.0)

  type_if : (p : Option PlaylistType) → If (SoundType text) p → If (CleanType text) p
  type_if none h = tt
  type_if (some t) h = type_of t h

  pub head_clean : (h : Head) → SoundHeadOf text h → CleanHead text h
  head_clean hd k = record { version = k.version; target = k.target; sequence = k.sequence; discontinuities = k.discontinuities; type = type_if hd.type k.type }

  pub type_other : (h : Head) → SoundHeadOf text h → TypeOther text h
  type_other h k = go h.type k.type
    where
      go : (p : Option PlaylistType) → If (SoundType text) p → OtherSaid text p
      go none k = tt
      go (some event) k = tt
      go (some vod) k = tt
      go (some (other s)) k = k.1

  -- ---- the clips
  title_some : (t : Option Span) → If (Shows (is_none_of (bytes "\r\n,")) text) t → TitleSome text t
  title_some none h = tt
  title_some (some s) h = some_shown (is_none_of (bytes "\r\n,")) text s h

  pub titles_some : (cs : List Clip) → All (SoundClipOf text) cs → TitlesSome text cs
  unfolding All
  titles_some [] h = tt
  titles_some (c ∷ cs) h = (title_some c.segment.title h.0.1.title, titles_some cs h.1)

  title_every : (t : Option Span) → If (Shows (is_none_of (bytes "\r\n,")) text) t → Every (is_none_of (bytes "\r\n,")) (title_text text t)
  unfolding Every
  title_every none h = tt
  title_every (some s) h = passes_shown (is_none_of (bytes "\r\n,")) text s h

  map_clean : (m : Option Map) → If (SoundMap text) m → If (λ x. Clean (map_line_of text x)) m
  map_clean none h = tt
  map_clean (some (ext_map u r l)) h = (some_shown (is_none_of (bytes "\"")) text u h.0, (passes_shown (is_none_of (bytes "\"")) text u h.0, h.1))

  module _ (tags : List ExtTag) (clean-tags : All (λ x. Clean (tag_line_of text x)) tags) where
    clip_clean : (c : Clip) → SoundClipOf text c → plain_uri text c ≡ true → CleanClip text tags c
    clip_clean c h e =
        let u = c.uri in
        let mark = begins (bytes "#") (shown text u) in
        let comma = begins (bytes ",") (shown text u) in
        record {
          map = map_clean c.segment.map h.1.map;
          range = h.1.range;
          tags = all_take (λ x. Clean (tag_line_of text x)) c.tag_count (drop c.first_tag tags) (all_drop (λ x. Clean (tag_line_of text x)) c.first_tag tags clean-tags);
          length = (h.1.length, title_every c.segment.title h.1.title);
          uri = (some_shown (is_none_of (bytes "\r\n")) text u h.0.0, (not-true mark (and_left (not mark) (not comma) e), (h.0.1, passes_shown (is_none_of (bytes "\r\n")) text u h.0.0)));
          no_comma = not-true comma (and_right (not mark) (not comma) e);
        }

    pub clips_clean : (cs : List Clip) → All (SoundClipOf text) cs → plain_uris text cs ≡ true → All (CleanClip text tags) cs
    unfolding plain_uris
    clips_clean cs h e = all_both (SoundClipOf text) (λ c. plain_uri text c ≡ true) (CleanClip text tags) clip_clean cs h (all_each (plain_uri text) cs e)

  -- ---- the unknown tags
  module _ (tag-clean : (x : ExtTag) → SoundTagOf text x → not_named_map text x ≡ true → Clean (tag_line_of text x)) where
    pub tags_clean : (ts : List ExtTag) → All (SoundTagOf text) ts → none_named_map text ts ≡ true → All (λ x. Clean (tag_line_of text x)) ts
    unfolding none_named_map
    tags_clean ts h e = all_both (SoundTagOf text) (λ x. not_named_map text x ≡ true) (λ x. Clean (tag_line_of text x)) tag-clean ts h (all_each (not_named_map text) ts e)
