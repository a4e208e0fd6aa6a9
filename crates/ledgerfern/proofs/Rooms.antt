-- What `ledgerfern_room` says is what `ledgerfern_read` needs, in the face's numbers: q of the one and r of the other, with tables of any size, for one text.
-- Rests on the same of the library's calls (`media`, `Rooms`). Assumes nothing.
use mathlib.Core.Path.{◌≡◌, refl, ◌∙◌, ap}
use mathlib.Core.List.{List}
use Prim.Native.Nat.{ℕ, ◌*◌, ◌≤◌, ◌<◌}
use native.Mathlib.Omega.{arith}
use lib.ListN.{length}
use Rattle.tables.specs.Layout.{clip_words, tag_words}
use Rattle.tables.specs.Refusal.{Answer, refused, given}
use Rattle.tables.proofs.Refusals.{number_above}
use Rattle.media.specs.Calls.{Read, Room, room, parse_media_playlist, room_for}
use Rattle.media.specs.Most.{most_clips, most_tags}
use Rattle.media.proofs.Rooms.{enough_gives, fewer_for_clips, fewer_for_tags, refuses_too, refuses_back, room_most}
use Rattle.ledgerfern.specs.declared.Room as roomᵈ
use Rattle.ledgerfern.specs.declared.Read as readᵈ
use Rattle.ledgerfern.specs.Numbers.{read_numbers, ReadAs, room_numbers}

-- ---- with number 0, q has the counts that the library gave
module _ (text : List ℕ) {q : roomᵈ.Room} (says : q ≡ room_numbers (room_for text)) where
  room_known : q.number ≡ 0 → room_for text ≡ given (room q.clips q.tags)
  room_known k = go (room_for text) refl
    where
      go : (a : Answer Room) → room_for text ≡ a → a ≡ given (room q.clips q.tags)
      go (refused ρ p) e =
          let z : q ≡ room_numbers (refused ρ p) = says ∙ ap room_numbers e in
          absurd (omega (arith, k, ap (λ (x : roomᵈ.Room). x.number) z, number_above ρ))
      go (given (room n m)) e = let z : q ≡ room_numbers (given (room n m)) = says ∙ ap room_numbers e in rw z

  -- and they are never above the most
  pub never_more : (q.clips ≤ most_clips) × (q.tags ≤ most_tags)
  never_more = go (room_for text) refl
    where
      go : (a : Answer Room) → room_for text ≡ a → (q.clips ≤ most_clips) × (q.tags ≤ most_tags)
      go (refused ρ p) e = let z : q ≡ room_numbers (refused ρ p) = says ∙ ap room_numbers e in rw z (omega arith, omega arith)
      go (given (room n m)) e = let z : q ≡ room_numbers (given (room n m)) = says ∙ ap room_numbers e in rw z (room_most text e)

module _ (text : List ℕ) {clips₀ tags₀ clips tags : List ℕ} {q : roomᵈ.Room} {r : readᵈ.Read} (says : q ≡ room_numbers (room_for text)) (reads : ReadAs text clips₀ tags₀ clips tags r) where
  -- ---- number 0: tables of so many records are enough, and with a word less, or fewer, the reader refuses by 7 or 8
  module _ (k : q.number ≡ 0) where
    pub enough : q.clips * clip_words ≤ length clips₀ → q.tags * tag_words ≤ length tags₀ → (r.number ≡ 0) × ((r.clips ≡ q.clips) × (r.tags ≡ q.tags))
    enough c t = rw (reads.answered ∙ ap read_numbers (enough_gives text (room_known text says k) (length clips₀) (length tags₀) c t)) (refl, (refl, refl))

    pub lacks_clips : length clips₀ < q.clips * clip_words → (r.number ≡ 7) × (r.place ≡ 0)
    lacks_clips c = rw (reads.answered ∙ ap read_numbers (fewer_for_clips text (room_known text says k) (length clips₀) (length tags₀) c)) (refl, refl)

    pub lacks_tags : q.clips * clip_words ≤ length clips₀ → length tags₀ < q.tags * tag_words → (r.number ≡ 8) × (r.place ≡ 0)
    lacks_tags c t = rw (reads.answered ∙ ap read_numbers (fewer_for_tags text (room_known text says k) (length clips₀) (length tags₀) c t)) (refl, refl)

  -- ---- another number is the reader's too, whatever the tables; and each number of the reader below 7 is this call's
  pub refuses : 0 < q.number → (r.number ≡ q.number) × (r.place ≡ q.place)
  refuses k = go (room_for text) refl
    where
      go : (a : Answer Room) → room_for text ≡ a → (r.number ≡ q.number) × (r.place ≡ q.place)
      go (refused ρ p) e =
          let z : q ≡ room_numbers (refused ρ p) = says ∙ ap room_numbers e in
          rw (z, reads.answered ∙ ap read_numbers (refuses_too text e (length clips₀) (length tags₀))) (refl, refl)
      go (given x) e =
          let z : q ≡ room_numbers (given x) = says ∙ ap room_numbers e in
          absurd (omega (arith, k, ap (λ (y : roomᵈ.Room). y.number) z))

  pub refuses_as_well : 0 < r.number → r.number < 7 → (q.number ≡ r.number) × (q.place ≡ r.place)
  refuses_as_well k few = go (parse_media_playlist text (length clips₀) (length tags₀)) refl
    where
      go : (a : Answer Read) → parse_media_playlist text (length clips₀) (length tags₀) ≡ a → (q.number ≡ r.number) × (q.place ≡ r.place)
      go (refused ρ p) e =
          let z : r ≡ read_numbers (refused ρ p) = reads.answered ∙ ap read_numbers e in
          let y = refuses_back text (length clips₀) (length tags₀) e (omega (arith, few, ap (λ (x : readᵈ.Read). x.number) z)) in
          rw (z, says ∙ ap room_numbers y) (refl, refl)
      go (given x) e =
          let z : r ≡ read_numbers (given x) = reads.answered ∙ ap read_numbers e in
          absurd (omega (arith, k, ap (λ (y : readᵈ.Read). y.number) z))
