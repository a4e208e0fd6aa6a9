-- What the writer answers, by what `may_write` knows at each exit: each refusal in its turn, and the length of a text that has room. Assumes nothing.
use mathlib.Core.Path.{◌≡◌}
use mathlib.Core.Bool.{true, false}
use mathlib.Core.List.{List}
use Prim.Native.Nat.{ℕ, ◌≤◌, ◌<◌}
use native.Mathlib.Omega.{arith}
use lib.ListN.{length}
use borrow.Author.Tests.{le-leb, lt-leb}
use Rattle.tables.specs.Refusal.{refused, given, text_too_long, broken_table, output_short}
use Rattle.tables.specs.Layout.{text_limit}
use Rattle.assembly.specs.Assembly.{Head}
use Rattle.rule9.specs.Rule9.{keeps_rule}
use Rattle.playlist.specs.Calls.{written_text, write_to}
use Rattle.measure.specs.Inside.Room.{short, room_for}
use Rattle.measure.specs.Inside.Sizes.{whole_size}
use Rattle.measure.proofs.Rooms.{short_room}
use Rattle.measure.proofs.Sizes.{whole_long}

module _ (text : List ℕ) (h : Head) (clips : List ℕ) (n : ℕ) (tags : List ℕ) (m room : ℕ) where
  pub too_long : text_limit < length text → write_to text h clips n tags m room ≡ refused text_too_long 0
  unfolding write_to
  too_long l = rw (lt-leb (length text) text_limit l)

  module _ (fits : length text ≤ text_limit) where
    pub breaks_rule : keeps_rule text h clips n tags m ≡ false → write_to text h clips n tags m room ≡ refused broken_table 0
    unfolding write_to
    breaks_rule k = rw (le-leb (length text) text_limit fits, k)

    module _ (keeps : keeps_rule text h clips n tags m ≡ true) where
      pub too_short : room_for room (whole_size h clips n tags) ≡ short → write_to text h clips n tags m room ≡ refused output_short 0
      unfolding write_to
      too_short s =
          let l : room < length (written_text text h clips n tags m) = omega (arith, short_room room _ s, whole_long text h clips n tags m keeps) in
          rw (le-leb (length text) text_limit fits, keeps, lt-leb (length (written_text text h clips n tags m)) room l)

      pub has_room : whole_size h clips n tags ≤ room → write_to text h clips n tags m room ≡ given (length (written_text text h clips n tags m))
      unfolding write_to
      has_room f =
          let l : length (written_text text h clips n tags m) ≤ room = omega (arith, f, whole_long text h clips n tags m keeps) in
          rw (le-leb (length text) text_limit fits, keeps, le-leb (length (written_text text h clips n tags m)) room l)
