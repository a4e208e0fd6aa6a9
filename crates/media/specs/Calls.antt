-- The public call `parse_media_playlist`: "Reader: 1, 2, 3, 4, then 5 or 6 whichever the reading meets first, 7, 8." And `room`, which says how many records
-- the reader needs room for, with its refusals but 7 and 8. Assumes nothing.
use Rattle.std.specs.Prelude.{ℕ, ◌*◌, ◌≡◌, List, [], ◌∷◌, leb, length, take}
use Rattle.std.proofs.Math.Option.{Option, none, some}
use Rattle.text.specs.Nom.{Parser, run_end, is_multispace}
use Rattle.text.specs.Many.{many0, items, stop}
use Rattle.text.specs.BasicTags.{ExtTag}
use Rattle.lengths.specs.Duration.{Extinf, ns, extinf}
use Rattle.lengths.specs.Duration as lengths
use Rattle.tables.specs.Layout.{clip_words, tag_words}
use Rattle.tables.specs.Refusal.{Refusal, Answer, refused, given, laid, or_refuse, is_master, left_out_tag, too_many_digits, clip_table_short, tag_table_short}
use Rattle.verdict.specs.Verdict.{Verdict, master, media}
use Rattle.verdict.specs.Calls.{admitted, and_then, header, verdict_of}
use Rattle.tags.specs.Tags.{timed_of, Tag, of_head, of_clip, unknown, comment, uri, left_out, Taken, took}
use Rattle.tags.specs.Tags as tags
use Rattle.assembly.specs.Assembly.{Head, State, begin, last_of, Clip, clips_of, tags_of, head_of, clip_count, kept_tags}
use Rattle.assembly.specs.Words.{clips_words, tags_words}

-- "White space (space, tab, CR, LF) is skipped after `#EXTM3U`": where the first step begins
unfoldable pub first_step : List ℕ → ℕ
first_step text = run_end is_multispace text (length header)

-- pair(complete(pair(m3u_tag, multispace0)), parse_media_playlist_tags): the steps, and the place where they stop, by any rule of a step
module _ (step : Parser Taken) where
  abbrev pub steps_by : List ℕ → List Taken
  steps_by text = items (many0 step text (first_step text))

  abbrev pub stop_by : List ℕ → ℕ
  stop_by text = stop (many0 step text (first_step text))

-- 4, at the deciding `#`
abbrev pub unless_master : {A : Type 0} → Verdict → Answer A → Answer A
unless_master (master hash) answer = refused is_master hash
unless_master media answer = answer

-- 5: "the reading meets a left-out tag"; 6: "an EXTINF that reads has over 9 digits before or after the point"
abbrev pub refused_extinf : Option Extinf → Option Refusal
refused_extinf none = none
refused_extinf (some (extinf (ns x) title)) = none
refused_extinf (some (extinf lengths.too_many_digits title)) = some too_many_digits

abbrev pub refused_tag : Tag → Option Refusal
refused_tag (of_head t) = none
refused_tag (of_clip t) = refused_extinf (timed_of t)
refused_tag (unknown t) = none
refused_tag (comment t) = none
refused_tag (uri u) = none
refused_tag (left_out t) = some left_out_tag

-- each at its `#`, where its step began
abbrev pub unless : {A : Type 0} → Option Refusal → ℕ → Answer A → Answer A
unless none at answer = answer
unless (some r) at answer = refused r at

abbrev pub unless_step : {A : Type 0} → Taken → Answer A → Answer A
unless_step (took at t) answer = unless (refused_tag t) at answer

unfoldable pub unless_met : {A : Type 0} → List Taken → Answer A → Answer A
unless_met [] answer = answer
unless_met (t ∷ ts) answer = unless_step t (unless_met ts answer)

-- what is given: head, how many clips, how many kept tags, stopping place
pub data Read : Type 0 where
  read : Head → ℕ → ℕ → ℕ → Read

abbrev pub read_from : State → ℕ → Read
read_from s n = read (head_of s) (clip_count s) (kept_tags s) n

-- 7, 8: by what the reading counted
abbrev pub unless_short : {A : Type 0} → State → ℕ → ℕ → Answer A → Answer A
unless_short s clipRoom tagRoom answer =
    or_refuse (leb (clip_count s * clip_words) clipRoom) clip_table_short 0
    (or_refuse (leb (kept_tags s * tag_words) tagRoom) tag_table_short 0
    answer)

-- what steps that stop at n come to: the answer, and the tags that are kept
abbrev pub answer_of : List ℕ → List Taken → ℕ → ℕ → ℕ → Answer Read
answer_of text steps n clipRoom tagRoom =
    and_then (admitted text)
    (unless_master (verdict_of text)
    (unless_met steps
    (unless_short (last_of begin steps) clipRoom tagRoom
    (given (read_from (last_of begin steps) n)))))

-- ---- how much room a reading needs: how many clips, how many kept tags
pub data Room : Type 0 where
  room : ℕ → ℕ → Room

abbrev pub room_from : State → Room
room_from s = room (clip_count s) (kept_tags s)

-- what the same steps come to before 7 and 8 are weighed
abbrev pub room_of : List ℕ → List Taken → Answer Room
room_of text steps =
    and_then (admitted text)
    (unless_master (verdict_of text)
    (unless_met steps
    (given (room_from (last_of begin steps)))))

abbrev pub kept_of : List Taken → List ExtTag
kept_of steps = take (kept_tags (last_of begin steps)) (tags_of steps)

-- ---- the call's own steps
unfoldable pub steps_of : List ℕ → List Taken
steps_of text = steps_by tags.step text

unfoldable pub stop_of : List ℕ → ℕ
stop_of text = stop_by tags.step text

unfoldable pub parse_media_playlist : List ℕ → ℕ → ℕ → Answer Read
parse_media_playlist text clipRoom tagRoom = answer_of text (steps_of text) (stop_of text) clipRoom tagRoom

unfoldable pub room_for : List ℕ → Answer Room
room_for text = room_of text (steps_of text)

unfoldable pub clips_read : List ℕ → List Clip
clips_read text = clips_of begin (steps_of text)

unfoldable pub tags_read : List ℕ → List ExtTag
tags_read text = kept_of (steps_of text)

-- all that a call says which gives so many clips and tags: its answer, and each word of both tables after it
pub record ReadingAs {R : Type 0} (view : R → Answer Read) (answer : Answer Read) (clipsGiven : List Clip) (tagsGiven : List ExtTag) (clips₀ tags₀ clips tags : List ℕ) (r : R) : Type 0 where
  pub answered : view r ≡ answer
  pub clips_after : clips ≡ laid answer (clips_words clipsGiven) clips₀
  pub tags_after : tags ≡ laid answer (tags_words tagsGiven) tags₀

abbrev pub ParsedAs : {R : Type 0} → (R → Answer Read) → List ℕ → List ℕ → List ℕ → List ℕ → List ℕ → R → Type 0
ParsedAs view text clips₀ tags₀ clips tags r = ReadingAs view (parse_media_playlist text (length clips₀) (length tags₀)) (clips_read text) (tags_read text) clips₀ tags₀ clips tags r

-- the same of a call by any rule of a step
module _ (step : Parser Taken) where
  abbrev pub answer_by : List ℕ → ℕ → ℕ → Answer Read
  answer_by text clipRoom tagRoom = answer_of text (steps_by step text) (stop_by step text) clipRoom tagRoom

  abbrev pub room_by : List ℕ → Answer Room
  room_by text = room_of text (steps_by step text)

  abbrev pub ParsedBy : {R : Type 0} → (R → Answer Read) → List ℕ → List ℕ → List ℕ → List ℕ → List ℕ → R → Type 0
  ParsedBy view text clips₀ tags₀ clips tags r =
      ReadingAs view (answer_by text (length clips₀) (length tags₀)) (clips_of begin (steps_by step text)) (kept_of (steps_by step text)) clips₀ tags₀ clips tags r
