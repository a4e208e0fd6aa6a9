-- `may_write` meets its contract: each exit by what is known there (`Answered`). Assumes nothing.
use mathlib.Core.Path.{sym, ◌∙◌, ap}
use mathlib.Core.Bool.{true}
use Rattle.tables.specs.Layout.{text_limit}
use Rattle.assembly.specs.Answers.{head_seen}
use Rattle.rule9.specs.Rule9.{keeps_rule}
use Rattle.measure.specs.Leave.{refusals}
use Rattle.measure.specs.Inside.Room.{room_of}
use Rattle.measure.proofs.Rule.{rule_below, rule_bound}
use Rattle.measure.proofs.Rooms.{fits_room, leaves_some}
use Rattle.measure.proofs.Answered.{too_long, breaks_rule, too_short, has_room}
use mathlib.Core.Path.{◌≡◌}
use borrow.Author.Rules.{rules}
use Rattle.measure.proofs.may_write.Goals as goal
use Rattle.measure.proofs.may_write.Goals.{Else-not-keeps_rule}

-- rule 9 is kept past its test
keeps : (c : Else-not-keeps_rule) → (let a = c.args in keeps_rule a.text.now (head_seen a.head) a.clips.now a.clip_count a.tags.now a.tag_count ≡ true)
keeps c = sym c.keeps_rule.ensures ∙ c.if-not-keeps_rule.false

pub returns-then-text-gt-TEXT_LIMIT : goal.returns-then-text-gt-TEXT_LIMIT
returns-then-text-gt-TEXT_LIMIT c = ap refusals (sym (too_long _ _ _ _ _ _ _ (search rules)))

pub returns-then-not-keeps_rule : goal.returns-then-not-keeps_rule
returns-then-not-keeps_rule c = ap refusals (sym (breaks_rule _ _ _ _ _ _ _ (search rules) (sym c.keeps_rule.ensures ∙ c.if-not-keeps_rule.true)))

pub whole_left-requires : goal.whole_left-requires
whole_left-requires c =
    let a = c.args in
    let b = rule_bound a.text.now text_limit (search rules) (head_seen a.head) a.clips.now a.clip_count a.tags.now a.tag_count (keeps (goal.at.whole_left-requires c).Else-not-keeps_rule) in
    record {
      type_below = b.0;
      clip_words_in_bounds = b.1.0;
      table_below = b.1.1.0;
      runs_within = b.1.1.1.0;
      tags_below = b.1.1.1.1;
    }

pub returns-then-is_some : goal.returns-then-is_some
returns-then-is_some c = ap refusals (sym (has_room _ _ _ _ _ _ _ (search rules) (keeps (goal.at.returns-then-is_some c).Else-not-keeps_rule) (leaves_some _ _ _ c.whole_left.ensures (sym c.is_some.ensures ∙ c.if-is_some.true))))

pub whole_room-requires : goal.whole_room-requires
whole_room-requires c =
    let a = c.args in
    let b = rule_below a.text.now text_limit (search rules) (head_seen a.head) a.clips.now a.clip_count a.tags.now a.tag_count (keeps (goal.at.whole_room-requires c).Else-not-keeps_rule) in
    record {
      type_below = b.0;
      runs_within = b.1.0;
      tags_below = b.1.1.0;
      clips_below = b.1.1.1;
    }

pub returns-in-Some : goal.returns-in-Some
returns-in-Some c =
    let l = fits_room _ _ (sym c.whole_room.ensures ∙ ap room_of c.in-Some.is) in
    ap refusals (sym (has_room _ _ _ _ _ _ _ (search rules) (keeps (goal.at.returns-in-Some c).Else-not-keeps_rule) l.0))

pub returns-in-None : goal.returns-in-None
returns-in-None c = ap refusals (sym (too_short _ _ _ _ _ _ _ (search rules) (keeps (goal.at.returns-in-None c).Else-not-keeps_rule) (sym c.whole_room.ensures ∙ ap room_of c.in-None.is)))
