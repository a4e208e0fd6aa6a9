-- The numbers say all that the library's answer says: answers that have the same numbers are the same. Each has a way back from its numbers.
-- Assumes nothing.
use mathlib.Core.Path.{◌≡◌, refl, ap}
use mathlib.Core.Bool.{Bool}
use mathlib.Core.List.{[], ◌∷◌}
use Prim.Native.Nat.{ℕ, zero, suc, ◌<◌}
use native.Mathlib.Omega.{arith}
use Rattle.text.proofs.Only.{Only, only_by}
use Rattle.tables.specs.Refusal.{Refusal, number_of, Answer, refused, given}
use Rattle.tables.proofs.Refusals.{by_number_lem, by_number, number_above}
use Rattle.assembly.specs.Assembly.{Head}
use Rattle.media.specs.Calls.{Read, read, Room, room}
use Rattle.playing.specs.Playing.{Pair, pair, Playing, playing}
use Rattle.window.specs.Window.{Window, none, range}
use Rattle.windows.specs.Table.{window_record}
use Rattle.text.specs.Nom.{span}
use Rattle.cue_file.specs.Read.{Found, found}
use Rattle.ledgerfern.specs.declared.Verdict as verdictᵈ
use Rattle.ledgerfern.specs.declared.Read as readᵈ
use Rattle.ledgerfern.specs.declared.Room as roomᵈ
use Rattle.ledgerfern.specs.declared.Value as valueᵈ
use Rattle.ledgerfern.specs.declared.On as onᵈ
use Rattle.ledgerfern.specs.declared.Playing as playingᵈ
use Rattle.ledgerfern.specs.declared.Starts as startsᵈ
use Rattle.ledgerfern.specs.declared.Window as windowᵈ
use Rattle.ledgerfern.specs.declared.Windows as windowsᵈ
use Rattle.ledgerfern.specs.declared.Written as writtenᵈ
use Rattle.ledgerfern.specs.declared.Cue as cueᵈ
use Rattle.ledgerfern.specs.Numbers.{verdict_numbers, value_numbers, on_numbers, playing_numbers, starts_numbers, window_numbers, windows_numbers, written_numbers, cue_numbers, read_numbers, room_numbers}
use Rattle.ledgerfern.specs.Heads.{mark_from, head_from}
use Rattle.ledgerfern.proofs.HeadNumbers.{mark_in, numbers_in}

-- the answer of a number: 0 gives what is given, and each other one is its refusal
abbrev answer_from : {A : Type 0} → ℕ → ℕ → A → Answer A
answer_from zero p a = given a
answer_from (suc n) p a = refused (by_number_lem (suc n)) p

row_back : {A : Type 0} (r : Refusal) (p : ℕ) (a : A) → answer_from (number_of r) p a ≡ refused r p
row_back r p a = go (number_of r) (number_above r) (by_number r)
  where
    go : (n : ℕ) → 0 < n → by_number_lem n ≡ r → answer_from n p a ≡ refused r p
    go zero h e = absurd (omega arith)
    go (suc n) h e = ap (λ (q : Refusal). refused q p) e

-- ---- each answer's numbers
abbrev verdict_back : verdictᵈ.Verdict → Answer Bool
verdict_back v = answer_from v.number v.place (mark_from v.master)

pub verdict_faithful : Only verdict_numbers
verdict_faithful = only_by verdict_numbers verdict_back go
  where
    go : (a : Answer Bool) → verdict_back (verdict_numbers a) ≡ a
    go (refused r p) = row_back r p _
    go (given m) = ap given (mark_in m).1

abbrev value_back : valueᵈ.Value → Answer ℕ
value_back v = answer_from v.number v.place v.value

pub value_faithful : Only value_numbers
value_faithful = only_by value_numbers value_back go
  where
    go : (a : Answer ℕ) → value_back (value_numbers a) ≡ a
    go (refused r p) = row_back r p _
    go (given n) = refl

abbrev on_back : onᵈ.On → Answer Pair
on_back o = answer_from o.number o.place (pair o.turn o.clip)

pub on_faithful : Only on_numbers
on_faithful = only_by on_numbers on_back go
  where
    go : (a : Answer Pair) → on_back (on_numbers a) ≡ a
    go (refused r p) = row_back r p _
    go (given (pair turn clip)) = refl

abbrev playing_back : playingᵈ.Playing → Answer Playing
playing_back o = answer_from o.number o.place (playing o.turn o.clip o.since o.left)

pub playing_faithful : Only playing_numbers
playing_faithful = only_by playing_numbers playing_back go
  where
    go : (a : Answer Playing) → playing_back (playing_numbers a) ≡ a
    go (refused r p) = row_back r p _
    go (given (playing turn clip since left)) = refl

abbrev starts_back : startsᵈ.Starts → Answer ℕ
starts_back v = answer_from v.number v.place v.clips

pub starts_faithful : Only starts_numbers
starts_faithful = only_by starts_numbers starts_back go
  where
    go : (a : Answer ℕ) → starts_back (starts_numbers a) ≡ a
    go (refused r p) = row_back r p _
    go (given n) = refl

abbrev window_from : ℕ → ℕ → ℕ → Window
window_from zero start end = none
window_from (suc n) start end = range start end

abbrev window_back : windowᵈ.Window → Answer Window
window_back w = answer_from w.number w.place (window_from w.present w.start w.end)

pub window_faithful : Only window_numbers
window_faithful = only_by window_numbers window_back go
  where
    go : (a : Answer Window) → window_back (window_numbers a) ≡ a
    go (refused r p) = row_back r p _
    go (given none) = refl
    go (given (range start end)) = refl

-- a record of the table of windows has the numbers of the call for its clip, but for the place
pub record_numbers : (a : Answer Window) → window_record a ≡ (window_numbers a).number ∷ (window_numbers a).present ∷ (window_numbers a).start ∷ (window_numbers a).end ∷ []
record_numbers (refused r p) = refl
record_numbers (given none) = refl
record_numbers (given (range start end)) = refl

abbrev windows_back : windowsᵈ.Windows → Answer ℕ
windows_back v = answer_from v.number v.place v.clips

pub windows_faithful : Only windows_numbers
windows_faithful = only_by windows_numbers windows_back go
  where
    go : (a : Answer ℕ) → windows_back (windows_numbers a) ≡ a
    go (refused r p) = row_back r p _
    go (given n) = refl

abbrev written_back : writtenᵈ.Written → Answer ℕ
written_back v = answer_from v.number v.place v.length

pub written_faithful : Only written_numbers
written_faithful = only_by written_numbers written_back go
  where
    go : (a : Answer ℕ) → written_back (written_numbers a) ≡ a
    go (refused r p) = row_back r p _
    go (given n) = refl

abbrev cue_back : cueᵈ.Cue → Answer Found
cue_back v = answer_from v.number v.place (found v.start (span v.uri_start v.uri_end) v.clips)

pub cue_faithful : Only cue_numbers
cue_faithful = only_by cue_numbers cue_back go
  where
    go : (a : Answer Found) → cue_back (cue_numbers a) ≡ a
    go (refused r p) = row_back r p _
    go (given (found start (span a b) clips)) = refl

abbrev read_back : readᵈ.Read → Answer Read
read_back r = answer_from r.number r.place (read (head_from r.head) r.clips r.tags r.stop)

pub read_faithful : Only read_numbers
read_faithful = only_by read_numbers read_back go
  where
    go : (a : Answer Read) → read_back (read_numbers a) ≡ a
    go (refused r p) = row_back r p _
    go (given (read h c t n)) = ap (λ (x : Head). given (read x c t n)) (numbers_in h)

abbrev room_back : roomᵈ.Room → Answer Room
room_back v = answer_from v.number v.place (room v.clips v.tags)

pub room_faithful : Only room_numbers
room_faithful = only_by room_numbers room_back go
  where
    go : (a : Answer Room) → room_back (room_numbers a) ≡ a
    go (refused r p) = row_back r p _
    go (given (room clips tags)) = refl
