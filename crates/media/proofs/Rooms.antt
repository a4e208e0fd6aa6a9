-- What `room` says is what the reader needs: with tables of so many records the reader gives, with a word less it refuses by 7 or 8, and each refuses what the
-- other does. By any rule of a step, then by the calls' own, then by what the calls promise. Rests on what the calls answer (`Answered`). Assumes nothing.
use Prim.Native.Nat.{ℕ, ◌*◌, ◌≤◌, ◌<◌}
use mathlib.Core.Path.{◌≡◌, refl, sym, ◌∙◌}
use mathlib.Core.Bool.{Bool, true, false}
use mathlib.Core.List.{List}
use native.Mathlib.Omega.{arith}
use lib.Dec.{leb}
use lib.ListN.{length}
use borrow.Author.Tests.{leb-true, le-leb, lt-leb}
use Rattle.text.specs.Nom.{Parser}
use Rattle.tables.specs.Layout.{clip_words, tag_words, text_limit}
use Rattle.tables.specs.Refusal.{Refusal, number_of, Answer, refused, given, or_refuse, text_too_long, clip_table_short, tag_table_short}
use Rattle.tables.proofs.Refusals.{front_or, given_refuses}
use Rattle.verdict.specs.Calls.{admitted, verdict_of}
use Rattle.tags.specs.Tags.{Taken, step}
use Rattle.assembly.specs.Assembly.{Head, head_of, clip_count, kept_tags}
use Rattle.media.specs.Calls.{stop_by, steps_of, stop_of, Read, read, Room, room, room_from, parse_media_playlist, room_by, room_for, clips_read, tags_read, ParsedAs}
use Rattle.media.specs.Inside.Passes.{first_pass}
use Rattle.media.proofs.Answered.{Passed, Fine, last, front_weighed, weighed_read, weighed_clips, weighed_tags}
use Rattle.media.proofs.ThrownOut.{clips_counted, tags_counted}
use Rattle.media.proofs.Most.{Early, early_admitted, early_media, early_met, least_step, clips_bound, tags_bound}
use Rattle.media.specs.Most.{most_clips, most_tags}

-- ---- what `room` answers, from what it knows at each exit
module _ (step : Parser Taken) (text : List ℕ) where
  pub room_refused : {ρ : Refusal} {p : ℕ} → Passed step text (refused ρ p) → room_by step text ≡ refused ρ p
  unfolding first_pass
  room_refused {ρ} {p} k = (front_weighed step text).refuses _ _ (given_refuses _ _) ρ p k

  pub room_given : {h : Head} {made kept n : ℕ} → Passed step text (given (read h made kept n)) → room_by step text ≡ given (room made kept)
  room_given k = (front_weighed step text).on _ (weighed_read step text k).0 ∙ rw (weighed_clips step text k, weighed_tags step text k)

-- by the call's own step
pub roomed : (text : List ℕ) {x : Answer Room} → room_by step text ≡ x → x ≡ room_for text
unfolding steps_of room_for
roomed text e = sym e

-- ---- its refusals are 1 to 6
pub room_early : (text : List ℕ) → Early (room_for text)
unfolding room_for
room_early text = early_admitted _ text (λ short. early_media _ (early_met _ (omega arith) (steps_of text)) (verdict_of text))

-- ---- what it refuses, the reader refuses, whatever the tables
pub refuses_too : (text : List ℕ) {ρ : Refusal} {p : ℕ} → room_for text ≡ refused ρ p → (clipRoom tagRoom : ℕ) → parse_media_playlist text clipRoom tagRoom ≡ refused ρ p
unfolding steps_of stop_of room_for parse_media_playlist
refuses_too text {ρ} {p} k clipRoom tagRoom = (front_weighed step text).refuses _ _ (given_refuses _ _) ρ p k

-- ---- where it gives n clips and m tags, 7 and 8 are left to the reader
module _ (text : List ℕ) {n m : ℕ} (k : room_for text ≡ given (room n m)) where
  room_passed : Fine step text × (◌≡◌ {A = Answer Room} (given (room_from (last step text))) (given (room n m)))
  unfolding steps_of room_for
  room_passed = (front_weighed step text).passed _ _ k

  -- what the reader gives, if the tables have room for it
  abbrev pub read_given : Answer Read
  read_given = given (read (head_of (last step text)) n m (stop_by step text))

  pub reads_in : (clipRoom tagRoom : ℕ)
      → parse_media_playlist text clipRoom tagRoom ≡ or_refuse (leb (n * clip_words) clipRoom) clip_table_short 0 (or_refuse (leb (m * tag_words) tagRoom) tag_table_short 0 read_given)
  unfolding steps_of stop_of parse_media_playlist
  reads_in clipRoom tagRoom =
      let e = room_passed.1 in
      let clips : clip_count (last step text) ≡ n = cc in
      let tags : kept_tags (last step text) ≡ m = cc in
      (front_weighed step text).on _ room_passed.0 ∙ rw (clips, tags)

  -- enough: it gives
  pub enough_gives : (clipRoom tagRoom : ℕ) → n * clip_words ≤ clipRoom → m * tag_words ≤ tagRoom → parse_media_playlist text clipRoom tagRoom ≡ read_given
  enough_gives clipRoom tagRoom c t = reads_in clipRoom tagRoom ∙ rw (le-leb (n * clip_words) clipRoom c, le-leb (m * tag_words) tagRoom t)

  -- a word less for the clips, or fewer: 7
  pub fewer_for_clips : (clipRoom tagRoom : ℕ) → clipRoom < n * clip_words → parse_media_playlist text clipRoom tagRoom ≡ refused clip_table_short 0
  fewer_for_clips clipRoom tagRoom c = reads_in clipRoom tagRoom ∙ rw (lt-leb (n * clip_words) clipRoom c)

  -- a word less for the tags, or fewer: 8
  pub fewer_for_tags : (clipRoom tagRoom : ℕ) → n * clip_words ≤ clipRoom → tagRoom < m * tag_words → parse_media_playlist text clipRoom tagRoom ≡ refused tag_table_short 0
  fewer_for_tags clipRoom tagRoom c t = reads_in clipRoom tagRoom ∙ rw (le-leb (n * clip_words) clipRoom c, lt-leb (m * tag_words) tagRoom t)

  -- the counts are those of what the reader lays into the tables
  pub room_counts : (n ≡ length (clips_read text)) × (m ≡ length (tags_read text))
  unfolding steps_of
  room_counts = let e = room_passed.1 in (sym (cc) ∙ clips_counted text, sym (cc) ∙ tags_counted text)

  -- and never more than the most that any text has
  pub room_most : (n ≤ most_clips) × (m ≤ most_tags)
  unfolding admitted
  room_most =
      let e = room_passed.1 in
      let clips : clip_count (last step text) ≡ n = cc in
      let tags : kept_tags (last step text) ≡ m = cc in
      let short = leb-true (length text) text_limit ((front_or text_too_long 0 (leb (length text) text_limit)).passed _ _ room_passed.0.0).0 in
      (omega (arith, short, clips, clips_bound step least_step text), omega (arith, short, tags, tags_bound step least_step text))

-- ---- the other way: what the reader gives or refuses before 7, `room` does too
module _ (text : List ℕ) (clipRoom tagRoom : ℕ) where
  pub gives_back : {h : Head} {n m stop : ℕ} → parse_media_playlist text clipRoom tagRoom ≡ given (read h n m stop) → room_for text ≡ given (room n m)
  gives_back {h} {n} {m} {stop} e = go (room_for text) refl
    where
      chain : (b c : Bool) {x : Answer Read} → or_refuse b clip_table_short 0 (or_refuse c tag_table_short 0 x) ≡ given (read h n m stop) → x ≡ given (read h n m stop)
      chain true true q = q
      chain true false q = cc
      chain false c q = cc

      go : (a : Answer Room) → room_for text ≡ a → a ≡ given (room n m)
      go (refused r p) k = let f = refuses_too text k clipRoom tagRoom in cc
      go (given (room i j)) k = let f = chain (leb (i * clip_words) clipRoom) (leb (j * tag_words) tagRoom) (sym (reads_in text k clipRoom tagRoom) ∙ e) in cc

  pub refuses_back : {ρ : Refusal} {p : ℕ} → parse_media_playlist text clipRoom tagRoom ≡ refused ρ p → number_of ρ < 7 → room_for text ≡ refused ρ p
  refuses_back {ρ} {p} e few = go (room_for text) refl
    where
      chain : (b c : Bool) (x : Read) → or_refuse b clip_table_short 0 (or_refuse c tag_table_short 0 (given x)) ≡ refused ρ p → ⊥
      chain true true x q = let z : ◌≡◌ {A = ℕ} 0 1 = cc in omega (arith, z)
      chain true false x q = let z : tag_table_short ≡ ρ = cc in omega (arith, rw (← z) at few)
      chain false c x q = let z : clip_table_short ≡ ρ = cc in omega (arith, rw (← z) at few)

      go : (a : Answer Room) → room_for text ≡ a → a ≡ refused ρ p
      go (refused r o) k = let f = refuses_too text k clipRoom tagRoom in cc
      go (given (room i j)) k = absurd (chain (leb (i * clip_words) clipRoom) (leb (j * tag_words) tagRoom) _ (sym (reads_in text k clipRoom tagRoom) ∙ e))

-- ---- by what the calls promise, through any view of their answers: q of `room`, and r of the reader with tables of any size, for one text
module _ {Q R : Type 0} (roomView : Q → Answer Room) (readView : R → Answer Read) (text : List ℕ) {clips₀ tags₀ clips tags : List ℕ} {q : Q} {r : R}
    (says : roomView q ≡ room_for text) (reads : ParsedAs readView text clips₀ tags₀ clips tags r) where
  module _ {n m : ℕ} (k : roomView q ≡ given (room n m)) where
    abbrev counted : room_for text ≡ given (room n m)
    counted = sym says ∙ k

    -- enough: the reader gives as many
    pub reader_gives : n * clip_words ≤ length clips₀ → m * tag_words ≤ length tags₀ → (h : Head) × (stop : ℕ) × (readView r ≡ given (read h n m stop))
    reader_gives c t = (_, _, reads.answered ∙ enough_gives text counted (length clips₀) (length tags₀) c t)

    pub reader_lacks_clips : length clips₀ < n * clip_words → readView r ≡ refused clip_table_short 0
    reader_lacks_clips c = reads.answered ∙ fewer_for_clips text counted (length clips₀) (length tags₀) c

    pub reader_lacks_tags : n * clip_words ≤ length clips₀ → length tags₀ < m * tag_words → readView r ≡ refused tag_table_short 0
    reader_lacks_tags c t = reads.answered ∙ fewer_for_tags text counted (length clips₀) (length tags₀) c t

  -- each refuses what the other does
  module _ {ρ : Refusal} {p : ℕ} where
    pub reader_refuses : roomView q ≡ refused ρ p → readView r ≡ refused ρ p
    reader_refuses k = reads.answered ∙ refuses_too text (sym says ∙ k) (length clips₀) (length tags₀)

    pub room_refuses : readView r ≡ refused ρ p → number_of ρ < 7 → roomView q ≡ refused ρ p
    room_refuses k few = says ∙ refuses_back text (length clips₀) (length tags₀) (sym reads.answered ∙ k) few
