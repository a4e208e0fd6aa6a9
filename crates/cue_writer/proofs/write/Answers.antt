-- `write`: its refusals in their order, each by its law, and past the last of them the whole file has room (`writes`). Assumes nothing.
use borrow.Author.Rules.{rules}
use native.Mathlib.Omega.{arith}
use Prim.Native.Nat.{◌≤◌}
use mathlib.Core.Path.{◌≡◌, refl, sym, ap, ◌∙◌}
use mathlib.Core.Bool.{true}
use lib.ListN.{length}
use Rattle.tables.specs.Layout.{text_limit}
use Rattle.tables.proofs.Laying.{as_refused}
use Rattle.clock.proofs.Calls.{InTurn}
use Rattle.put.proofs.Putting.{puts_as}
use Rattle.cue_writer.specs.Inside.Measure.{fields_hold}
use Rattle.cue_writer.specs.Inside.Pass.{pass_file}
use Rattle.cue_writer.proofs.Weighed.{UrisIn, count_small}
use Rattle.cue_writer.proofs.Answered.{writer_1, writer_9_count, writer_9_uri, writer_opens, writer_33, writer_10, writes, opened_turn, opened_first, opened_clips}
use Rattle.cue_writer.proofs.write.Goals as goal
use Rattle.cue_writer.proofs.write.Goals.{Else-not-fields_hold, Else-not-uris_in, Else-text-gt-TEXT_LIMIT, In_ok-starts}

-- past 1
short : (c : Else-text-gt-TEXT_LIMIT) → length c.args.text.now ≤ text_limit
short c = search rules

-- past 9 of the URIs
in-text : (c : Else-not-uris_in)
    → let a = c.args in UrisIn a.text.now a.words.now a.clips
in-text c = sym c.uris_in.ensures ∙ c.if-not-uris_in.false

-- past 9 and 11
in-turn : (c : In_ok-starts)
    → let a = c.args in InTurn a.words.now a.clips 1 0
in-turn c = opened_turn _ _ _ _ c.new.ensures c.in_ok-starts.was

-- past 33
held : (c : Else-not-fields_hold)
    → let a = c.args in fields_hold a.words.now a.clips ≡ true
held c = sym c.fields_hold.ensures ∙ c.if-not-fields_hold.false

pub returns-then-text-gt-TEXT_LIMIT : goal.returns-then-text-gt-TEXT_LIMIT
returns-then-text-gt-TEXT_LIMIT c = as_refused _ _ _ _ _ refl (writer_1 _ _ _ _ (search rules))

pub returns-then-not-clips_fit : goal.returns-then-not-clips_fit
returns-then-not-clips_fit c = as_refused _ _ _ _ _ refl (writer_9_count _ _ _ _ (search rules) (sym c.clips_fit.ensures ∙ c.if-not-clips_fit.true))

pub returns-then-not-uris_in : goal.returns-then-not-uris_in
returns-then-not-uris_in c = as_refused _ _ _ _ _ refl (writer_9_uri _ _ _ _ (search rules) (sym c.uris_in.ensures ∙ c.if-not-uris_in.true))

pub returns-in_err-starts : goal.returns-in_err-starts
returns-in_err-starts c = as_refused _ _ _ _ _ (search rules) (writer_opens _ _ _ _ (search rules) (in-text (goal.at.returns-in_err-starts c).Else-not-uris_in) _ _ c.new.ensures c.in_err-starts.was)

pub returns-then-not-fields_hold : goal.returns-then-not-fields_hold
returns-then-not-fields_hold c =
    let wide = sym c.fields_hold.ensures ∙ c.if-not-fields_hold.true in
    as_refused _ _ _ _ _ refl (writer_33 _ _ _ _ (search rules) (in-text (goal.at.returns-then-not-fields_hold c).Else-not-uris_in) (in-turn (goal.at.returns-then-not-fields_hold c).In_ok-starts) wide)

pub returns-then-out-length : goal.returns-then-out-length
returns-then-out-length c =
    let text = in-text (goal.at.returns-then-out-length c).Else-not-uris_in in
    as_refused _ _ _ _ _ refl (writer_10 _ _ _ _ (search rules) text (in-turn (goal.at.returns-then-out-length c).In_ok-starts) (held (goal.at.returns-then-out-length c).Else-not-fields_hold) (omega (arith, c.size-length.ensures)))

pub lay-requires : goal.lay-requires
lay-requires c = omega (arith, opened_clips _ _ _ _ c.new.ensures c.in_ok-starts.was, count_small _ _ (held (goal.at.lay-requires c).Else-not-fields_hold))

pub returns : goal.returns
returns c =
    let a = c.args in
    let first = opened_first _ _ _ _ c.new.ensures c.in_ok-starts.was in
    let file = puts_as (ap (pass_file a.text.now a.words.now) first) c.lay.ensures in
    let limit = short (goal.at.returns c).Else-text-gt-TEXT_LIMIT in
    let text = in-text (goal.at.returns c).Else-not-uris_in in
    writes _ _ _ _ limit text (in-turn (goal.at.returns c).In_ok-starts) (held (goal.at.returns c).Else-not-fields_hold) _ _ _ (omega (arith, c.size-length.ensures)) file refl
