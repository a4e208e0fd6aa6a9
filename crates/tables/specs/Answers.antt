-- What each answer of the code says, in the words of the rules. Assumes nothing.
use Rattle.std.specs.Prelude.{ℕ, ◌≡◌, List, Result, Ok, Err}
use Rattle.tables.specs.declared.Refusal as refusalᵈ
use Rattle.tables.specs.declared.Refusal.TheVariants as refusalᵛ
use Rattle.tables.specs.declared.Refused as refusedᵈ
use Rattle.tables.specs.Refusal.{Refusal, text_too_long, not_utf8, no_header, is_master, left_out_tag, too_many_digits, clip_table_short, tag_table_short, broken_table, output_short, total_too_long, bad_rate, turn_too_late, no_such_clip, window_too_far, no_range_before, nothing_plays, tick_too_late, file_too_short, other_version, not_exact, bad_start, too_wide, Answer, refused, given, laid}

abbrev pub refusal_of : refusalᵈ.Refusal → Refusal
refusal_of refusalᵛ.TextTooLong = text_too_long
refusal_of refusalᵛ.NotUtf8 = not_utf8
refusal_of refusalᵛ.NoHeader = no_header
refusal_of refusalᵛ.IsMaster = is_master
refusal_of refusalᵛ.LeftOutTag = left_out_tag
refusal_of refusalᵛ.TooManyDigits = too_many_digits
refusal_of refusalᵛ.ClipTableShort = clip_table_short
refusal_of refusalᵛ.TagTableShort = tag_table_short
refusal_of refusalᵛ.BrokenTable = broken_table
refusal_of refusalᵛ.OutputShort = output_short
refusal_of refusalᵛ.TotalTooLong = total_too_long
refusal_of refusalᵛ.BadRate = bad_rate
refusal_of refusalᵛ.TurnTooLate = turn_too_late
refusal_of refusalᵛ.NoSuchClip = no_such_clip
refusal_of refusalᵛ.WindowTooFar = window_too_far
refusal_of refusalᵛ.NoRangeBefore = no_range_before
refusal_of refusalᵛ.NothingPlays = nothing_plays
refusal_of refusalᵛ.TickTooLate = tick_too_late
refusal_of refusalᵛ.FileTooShort = file_too_short
refusal_of refusalᵛ.OtherVersion = other_version
refusal_of refusalᵛ.NotExact = not_exact
refusal_of refusalᵛ.BadStart = bad_start
refusal_of refusalᵛ.TooWide = too_wide

-- a call's answer, by what its value says: a refusal has place 0, or the place that it is told with
module _ {A B : Type 0} where
  abbrev pub answer : (A → B) → Result A refusalᵈ.Refusal → Answer B
  answer f (Err r) = refused (refusal_of r) 0
  answer f (Ok a) = given (f a)

  abbrev pub answer_at : (A → B) → Result A refusedᵈ.Refused → Answer B
  answer_at f (Err r) = refused (refusal_of r.refusal) r.place
  answer_at f (Ok a) = given (f a)

-- how many records were laid into a lent table, or why none was
abbrev pub laid_of : Result ℕ refusalᵈ.Refusal → Answer ℕ
laid_of = answer (λ n. n)

-- all that a call says that fills a lent table: its answer, and each word of the table after it; refused, untouched, and words past the last record
-- unchanged
pub record LaidAs (x : Answer ℕ) (ws out₀ out : List ℕ) (r : Result ℕ refusalᵈ.Refusal) : Type 0 where
  pub answered : laid_of r ≡ x
  pub out_after : out ≡ laid x ws out₀
