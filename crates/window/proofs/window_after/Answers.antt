-- `window_after`: the flags that are tested are the clip's own (`flag_is`), and each way out is a law of the rule. Assumes nothing.
use mathlib.Core.Path.{◌≡◌, sym, ◌∙◌}
use mathlib.Core.Bool.{true}
use Rattle.window.specs.Window.{is_sub_range, has_o}
use Rattle.window.specs.Answers.{answer_of}
use Rattle.window.proofs.Laws.{flag_is, after_none, after_o, after_16, after_behind}
use Rattle.window.proofs.window_after.Goals as goal
use Rattle.window.proofs.window_after.Goals.{After-has_flag, After-has_flag-2, Else-not-has_flag}

ranged : (c : After-has_flag) → let a = c.args in is_sub_range a.words.now a.clip ≡ c.has_flag.result
ranged c = flag_is _ _ _ _ c.clip_word-flags.ensures c.has_flag.ensures

some-range : (c : Else-not-has_flag) → let a = c.args in is_sub_range a.words.now a.clip ≡ true
some-range c = flag_is _ _ _ _ c.clip_word-flags.ensures c.has_flag.ensures ∙ c.if-not-has_flag.false

placed : (c : After-has_flag-2) → let a = c.args in has_o a.words.now a.clip ≡ c.has_flag-2.result
placed c = flag_is _ _ _ _ c.clip_word-flags.ensures c.has_flag-2.ensures

pub returns-then-not-has_flag : goal.returns-then-not-has_flag
returns-then-not-has_flag c = sym (after_none _ _ _ _ (ranged (goal.at.returns-then-not-has_flag c).After-has_flag ∙ c.if-not-has_flag.true))

pub returns-then-has_flag : goal.returns-then-has_flag
returns-then-has_flag c =
    let a = c.args in
    let e = after_o a.text.now a.words.now a.clip (answer_of a.before) (some-range (goal.at.returns-then-has_flag c).Else-not-has_flag) (placed (goal.at.returns-then-has_flag c).After-has_flag-2 ∙ c.if-has_flag.true) in
    rw (e, ← c.clip_word.ensures, ← c.clip_word-length.ensures) c.range_from.ensures

pub returns-then-not-follows : goal.returns-then-not-follows
returns-then-not-follows c = sym (after_16 _ _ _ _ (some-range (goal.at.returns-then-not-follows c).Else-not-has_flag) (placed (goal.at.returns-then-not-follows c).After-has_flag-2 ∙ c.if-has_flag.false) (sym c.follows.ensures ∙ c.if-not-follows.true))

pub returns : goal.returns
returns c =
    let a = c.args in
    let e = after_behind a.text.now a.words.now a.clip (answer_of a.before) (some-range (goal.at.returns c).Else-not-has_flag) (placed (goal.at.returns c).After-has_flag-2 ∙ c.if-has_flag.false) (sym c.follows.ensures ∙ c.if-not-follows.false) in
    rw (e, ← c.clip_word-length.ensures) c.behind.ensures
