-- A text whose steps say the lines of a list that was read is read as the same list: head, clips, counts, and no refusal at a step. The text enters only
-- through what its steps say. Assumes nothing.
use Prim.Native.Nat.{ℕ}
use mathlib.Core.Path.{◌≡◌, ap, sym, ◌∙◌}
use mathlib.Core.List.{List, map}
use lib.ListN.{length}
use Rattle.tables.specs.Refusal.{Answer}
use Rattle.assembly.specs.Assembly.{Head, begin, last_of, head_of, clip_count, kept_tags}
use Rattle.media.specs.Calls.{steps_of, unless_met, clips_read, tags_read}
use Rattle.records.specs.Same.{shown_list}
use Rattle.roundtrip.proofs.Said.{taken_says, line_says}
use Rattle.roundtrip.proofs.Assembled.{assembled, begin_said, last_said, clips_said, head_said, kept_said}
use Rattle.roundtrip.proofs.Told.{TypeOther, TitlesSome, body_lines, told, kept_length, clips_adjoin}
use Rattle.roundtrip.proofs.Refused.{lines_met}

-- the head that a text is read as
abbrev pub head_read : List ℕ → Head
head_read text = head_of (last_of begin (steps_of text))

-- w is read as text is
pub record SameReading (text w : List ℕ) : Type 0 where
  pub list : shown_list text (head_read text) (clips_read text) (tags_read text) ≡ shown_list w (head_read w) (clips_read w) (tags_read w)
  pub count : clip_count (last_of begin (steps_of text)) ≡ clip_count (last_of begin (steps_of w))
  pub kept : kept_tags (last_of begin (steps_of text)) ≡ kept_tags (last_of begin (steps_of w))

-- the steps of w say the lines of the list that text is read as
abbrev pub SaysAgain : List ℕ → List ℕ → Type 0
SaysAgain text w = map (taken_says w) (steps_of w) ≡ map line_says (body_lines text (head_read text) (clips_read text) (tags_read text))

pub again : (text w : List ℕ) → TypeOther text (head_read text) → TitlesSome text (clips_read text) → SaysAgain text w → SameReading text w
unfolding shown_list clips_read tags_read
again text w other-type some-titles e =
    let t = told text (head_read text) (clips_read text) (tags_read text) other-type some-titles (clips_adjoin (steps_of text)) in
    let a = assembled text (steps_of text) in
    let b = assembled w (steps_of w) in
    let last = sym t.last ∙ ap (last_said begin_said) (sym e) in
    let clips = sym t.clips ∙ ap (clips_said begin_said) (sym e) ∙ sym b.clips in
    let heads = ap head_said last ∙ sym b.head in
    record {
      list = rw (heads, clips);
      count = a.count ∙ ap length (sym a.clips ∙ clips ∙ b.clips) ∙ sym b.count;
      kept = sym (kept_length (steps_of text)) ∙ ap kept_said last ∙ sym b.kept;
    }

-- and no step of w is refused
pub again_met : {A : Type 0} (text w : List ℕ) (answer : Answer A) → SaysAgain text w → unless_met (steps_of w) answer ≡ answer
again_met text w answer e = lines_met w answer (steps_of w) (body_lines text (head_read text) (clips_read text) (tags_read text)) e
