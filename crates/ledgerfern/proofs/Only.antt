-- No second result fits a promise of the face: each is an equation for the result, and one for each lent table. Assumes nothing.
use mathlib.Core.Path.{◌≡◌, sym, ◌∙◌}
use mathlib.Core.Bool.{Bool}
use mathlib.Core.List.{List}
use Prim.Native.Nat.{ℕ}
use Rattle.tables.specs.Refusal.{Answer}
use Rattle.media.specs.Calls.{Room}
use Rattle.playing.specs.Playing.{Pair, Playing}
use Rattle.window.specs.Window.{Window}
use Rattle.cue_file.specs.Read.{Found}
use Rattle.ledgerfern.specs.declared.Verdict as verdictᵈ
use Rattle.ledgerfern.specs.declared.Read as readᵈ
use Rattle.ledgerfern.specs.declared.Room as roomᵈ
use Rattle.ledgerfern.specs.declared.Value as valueᵈ
use Rattle.ledgerfern.specs.declared.On as onᵈ
use Rattle.ledgerfern.specs.declared.Playing as playingᵈ
use Rattle.ledgerfern.specs.declared.Starts as startsᵈ
use Rattle.ledgerfern.specs.declared.Window as windowᵈ
use Rattle.ledgerfern.specs.declared.Windows as windowsᵈ
use Rattle.ledgerfern.specs.declared.Cue as cueᵈ
use Rattle.ledgerfern.specs.declared.Head as headᵈ
use Rattle.ledgerfern.specs.declared.Written as writtenᵈ
use Rattle.ledgerfern.specs.Numbers.{verdict_numbers, room_numbers, value_numbers, on_numbers, playing_numbers, window_numbers, cue_numbers, ReadAs, StartsAs, WindowsAs, CueWriteAs}
use Rattle.ledgerfern.specs.Write.{WriteAs}

-- of a promise `r ≡ x`
one : {A : Type 0} (x a b : A) → a ≡ x → b ≡ x → a ≡ b
one x a b p q = p ∙ sym q

-- `ledgerfern_verdict`
pub verdict_once : (x : Answer Bool) (a b : verdictᵈ.Verdict) → a ≡ verdict_numbers x → b ≡ verdict_numbers x → a ≡ b
verdict_once x = one (verdict_numbers x)

-- `ledgerfern_room`
pub room_once : (x : Answer Room) (a b : roomᵈ.Room) → a ≡ room_numbers x → b ≡ room_numbers x → a ≡ b
room_once x = one (room_numbers x)

-- `ledgerfern_total`, `ledgerfern_start_ns`, `ledgerfern_start_tick`, `ledgerfern_clip_ticks`
pub value_once : (x : Answer ℕ) (a b : valueᵈ.Value) → a ≡ value_numbers x → b ≡ value_numbers x → a ≡ b
value_once x = one (value_numbers x)

-- `ledgerfern_clip_at`, `ledgerfern_playing_at`
pub on_once : (x : Answer Pair) (a b : onᵈ.On) → a ≡ on_numbers x → b ≡ on_numbers x → a ≡ b
on_once x = one (on_numbers x)

pub playing_once : (x : Answer Playing) (a b : playingᵈ.Playing) → a ≡ playing_numbers x → b ≡ playing_numbers x → a ≡ b
playing_once x = one (playing_numbers x)

-- `ledgerfern_starts`, at the same words and numbers, and the same table
module _ {t : List ℕ} {n rate turn : ℕ} {out₀ out out' : List ℕ} {r r' : startsᵈ.Starts} (p : StartsAs t n rate turn out₀ out r) (q : StartsAs t n rate turn out₀ out' r') where
  pub starts_once : r ≡ r'
  starts_once = one _ r r' p.answered q.answered

  pub table_once : out ≡ out'
  table_once = one _ out out' p.out_after q.out_after

-- `ledgerfern_window`
pub window_once : (x : Answer Window) (a b : windowᵈ.Window) → a ≡ window_numbers x → b ≡ window_numbers x → a ≡ b
window_once x = one (window_numbers x)

-- `ledgerfern_windows`, at the same text, words and count, and the same table
module _ {text t : List ℕ} {n : ℕ} {out₀ out out' : List ℕ} {r r' : windowsᵈ.Windows} (p : WindowsAs text t n out₀ out r) (q : WindowsAs text t n out₀ out' r') where
  pub windows_once : r ≡ r'
  windows_once = one _ r r' p.answered q.answered

  pub window_table_once : out ≡ out'
  window_table_once = one _ out out' p.out_after q.out_after

-- `ledgerfern_cue_write`, at the same text, words and count, and the same output
module _ {text t : List ℕ} {n : ℕ} {out₀ out out' : List ℕ} {r r' : writtenᵈ.Written} (p : CueWriteAs text t n out₀ out r) (q : CueWriteAs text t n out₀ out' r') where
  pub cue_written_once : r ≡ r'
  cue_written_once = one _ r r' p.answered q.answered

  pub cue_file_once : out ≡ out'
  cue_file_once = one _ out out' p.out_after q.out_after

-- `ledgerfern_cue_read`
pub cue_once : (x : Answer Found) (a b : cueᵈ.Cue) → a ≡ cue_numbers x → b ≡ cue_numbers x → a ≡ b
cue_once x = one (cue_numbers x)

-- `ledgerfern_read`, at the same text and the same tables
module _ {text clips₀ tags₀ clips clips' tags tags' : List ℕ} {r r' : readᵈ.Read} (p : ReadAs text clips₀ tags₀ clips tags r) (q : ReadAs text clips₀ tags₀ clips' tags' r') where
  pub read_once : r ≡ r'
  read_once = one _ r r' p.answered q.answered

  pub clips_once : clips ≡ clips'
  clips_once = one _ clips clips' p.clips_after q.clips_after

  pub tags_once : tags ≡ tags'
  tags_once = one _ tags tags' p.tags_after q.tags_after

-- `ledgerfern_write`, at the same text, tables, counts and head, and the same output
module _ {text clips : List ℕ} {n : ℕ} {tags : List ℕ} {m : ℕ} {h : headᵈ.Head} {out₀ out out' : List ℕ} {r r' : writtenᵈ.Written}
    (p : WriteAs text clips n tags m h out₀ out r) (q : WriteAs text clips n tags m h out₀ out' r') where
  pub written_once : r ≡ r'
  written_once = one _ r r' p.answered q.answered

  pub out_once : out ≡ out'
  out_once = one _ out out' p.out_after q.out_after
