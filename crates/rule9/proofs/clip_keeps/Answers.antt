-- `clip_keeps`: the rule, group by group; without flags zeros are what is left of it (`none_keep`, `untold_keeps`). Assumes nothing.
use mathlib.Core.Path.{sym, ◌∙◌}
use mathlib.Core.Bool.{◌&&◌}
use Rattle.rule9.specs.Rule9.{clip_keeps}
use Rattle.rule9.proofs.Zeros.{none_keep, untold_keeps}
use Rattle.rule9.proofs.clip_keeps.Goals as goal

pub returns-then-flags-eq0 : goal.returns-then-flags-eq0
unfolding clip_keeps
returns-then-flags-eq0 c =
    let a = c.args in
    let none = sym c.held_word-flags.ensures ∙ c.if-flags-eq0.true in
    let zeros = c.zero_words.ensures ∙ untold_keeps a.text.now a.clips.now a.k none in
    rw (none, none_keep) (λ i. c.plain_keep-plain.ensures i && zeros i)

pub returns : goal.returns
unfolding clip_keeps
returns c =
    let text = c.args.text.now in
    rw (← c.held_word-flags.ensures)
    (λ i. c.plain_keep-plain.ensures i && (c.flags_keep-kept.ensures i && (c.range_keeps-range.ensures text i && c.map_keeps-map.ensures i)))
