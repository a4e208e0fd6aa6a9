-- `lengths::duration::float` meets its contract: what is kept of the digits makes the same length (`Kept`). Assumes nothing.
use mathlib.Core.Path.{◌≡◌, sym, ◌∙◌, ap}
use native.Mathlib.Omega.{arith}
use Rattle.text.specs.Nom.{ok, map}
use Rattle.text.proofs.Tried.{handed_on}
use Rattle.lengths.specs.Duration.{counted}
use Rattle.lengths.specs.Answers.{kept, digits_of, digits_res, length_res}
use Rattle.lengths.proofs.Sides.{after_point}
use Rattle.lengths.proofs.Kept.{left_kept, right_kept, kept_none, kept_whole, kept_both}
use Rattle.lengths.proofs.duration.float.Goals as goal
use Rattle.lengths.proofs.duration.float.Goals.{In_ok-left, In-Ok}

-- the digits before the point, and those after it
left : (c : In_ok-left) → (let a = c.args in map kept counted a.text.now a.at ≡ ok (digits_of c.in_ok-left.left) c.in_ok-left.point)
left c = sym c.in_ok-left.ensures

right : (c : In-Ok) → (map kept after_point c.args.text.now c.in_ok-left.point ≡ ok (digits_of c.in-Ok.right) c.in-Ok.end)
right c = sym c.fraction.ensures ∙ ap digits_res c.in-Ok.is

pub length_of-requires : goal.length_of-requires
length_of-requires c = (left_kept _ _ _ _ (left (goal.at.length_of-requires c).In_ok-left), right_kept _ _ _ _ (right (goal.at.length_of-requires c).In-Ok))

pub length_of-requires-in-Err : goal.length_of-requires-in-Err
length_of-requires-in-Err c = (left_kept _ _ _ _ (left (goal.at.length_of-requires-in-Err c).In_ok-left), omega arith)

pub returns-in-Ok : goal.returns-in-Ok
returns-in-Ok c = rw c.length_of.ensures (sym (kept_both _ _ _ _ _ _ (left (goal.at.returns-in-Ok c).In_ok-left) (right (goal.at.returns-in-Ok c).In-Ok)))

pub returns-in-Err : goal.returns-in-Err
returns-in-Err c = rw c.length_of-in-Err.ensures (sym (kept_whole _ _ _ _ _ (left (goal.at.returns-in-Err c).In_ok-left) (sym c.fraction.ensures ∙ ap digits_res c.in-Err.is)))

pub returns-in_err-left : goal.returns-in_err-left
returns-in_err-left c = ap length_res (handed_on _ _ c.from_residual.ensures.1) ∙ sym (kept_none _ _ _ (sym c.in_err-left.ensures))
