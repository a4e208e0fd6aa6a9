-- `all_starts`: `in_turn` refuses as the rule does, or the table is too short, or all is laid. Assumes nothing.
use native.Mathlib.Omega.{arith}
use mathlib.Core.Path.{refl, sym, ◌∙◌}
use Rattle.std.proofs.lemmas.Result.{err_from_is_err_and}
use Rattle.tables.proofs.Refusals.{given_refuses}
use Rattle.tables.proofs.Laying.{as_refused, as_given}
use Rattle.clock.proofs.Calls.{turn_front}
use Rattle.clock.proofs.Results.{Whole, turn_result}
use Rattle.starts.specs.Table.{all_starts}
use Rattle.starts.proofs.Laying.{starts_10, starts_given}
use Rattle.starts.proofs.table.all_starts.Goals as goal
use Rattle.starts.proofs.table.all_starts.Goals.{In_ok-whole}

-- past the first refusals
passed : (c : In_ok-whole) → let a = c.args in Whole a.words.now a.clips a.rate a.turn c.in_ok-whole.whole
passed c = turn_result _ _ _ _ _ c.in_ok-whole.ensures

pub returns-in_err-whole : goal.returns-in_err-whole
unfolding all_starts
returns-in_err-whole c =
    let p = err_from_is_err_and c.from_residual.result c.from_residual.ensures.1 in
    as_refused _ _ _ _ _ (rw (p.1, p.2)) ((turn_front _ _ _ _).refuses _ _ (given_refuses _ _) _ 0 (sym c.in_err-whole.ensures))

pub returns-then-not-starts_fit : goal.returns-then-not-starts_fit
returns-then-not-starts_fit c = as_refused _ _ _ _ _ refl (starts_10 _ _ _ _ _ (passed (goal.at.returns-then-not-starts_fit c).In_ok-whole).on (sym c.starts_fit.ensures ∙ c.if-not-starts_fit.true))

pub lay-requires : goal.lay-requires
lay-requires c =
    let w = passed (goal.at.lay-requires c).In_ok-whole in
    (sym c.starts_fit.ensures ∙ c.if-not-starts_fit.false, w.sum, omega (arith, w.sum, w.on.table.short), w.on.turn_high, w.on.rate_high)

pub returns : goal.returns
returns c =
    let e = starts_given _ _ _ _ _ (passed (goal.at.returns c).In_ok-whole).on (sym c.starts_fit.ensures ∙ c.if-not-starts_fit.false) in
    as_given _ _ _ _ _ _ refl e c.lay.ensures
