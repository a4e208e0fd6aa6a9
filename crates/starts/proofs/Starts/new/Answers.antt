-- `Starts::new`: `in_turn` refuses as the rule does, or gives the total that the cursor holds. Assumes nothing.
use Prim.Native.Nat.{ℕ}
use mathlib.Core.Path.{sym, ap, ◌∙◌}
use Rattle.tables.specs.Refusal.{given}
use Rattle.tables.proofs.Refusals.{given_refuses}
use Rattle.starts.specs.Starts.{cursor, starts}
use Rattle.clock.proofs.Calls.{turn_front}
use Rattle.clock.proofs.Results.{refused_result, turn_result}
use Rattle.starts.proofs.Starts.new.Goals as goal

pub returns-in_err-total : goal.returns-in_err-total
unfolding starts
returns-in_err-total c = refused_result _ _ _ _ _ c.from_residual.ensures.1 ((turn_front _ _ _ _).refuses _ _ (given_refuses _ _)) c.in_err-total.ensures

pub returns : goal.returns
unfolding starts
returns c =
    let a = c.args in
    let w = turn_result _ _ _ _ _ c.in_ok-total.ensures in
    ap (λ (x : ℕ). given (cursor a.clips a.rate a.turn x 0 0)) w.sum ∙ sym ((turn_front _ _ _ _).on _ w.on)
