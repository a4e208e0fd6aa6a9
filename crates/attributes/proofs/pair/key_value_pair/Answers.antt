-- `pair::key_value_pair`: the tests up to the name's end; from there on `pair_named` leaves only the value. Assumes nothing.
use mathlib.Core.Path.{sym, ◌∙◌, ap, ◌≡◌}
use borrow.Author.Tests.{lt-ltb, le-ltb}
use Rattle.attributes.specs.Pairs.{key_value_pair, pair, quoted, unquoted}
use Rattle.attributes.specs.Answers.{pair_res}
use Rattle.attributes.proofs.Name.{pair_named}
use Prim.Native.Nat.{◌+◌}
use Rattle.text.proofs.Tried.{handed_on}
use Rattle.text.specs.Nom.{ok, span, bytes, after_tag, bind, alt}
use Rattle.attributes.proofs.pair.key_value_pair.Goals as goal
use Rattle.attributes.proofs.pair.key_value_pair.Goals.{Else-text-name_end}

pub returns-then-text-at : goal.returns-then-text-at
unfolding key_value_pair
returns-then-text-at c = rw (le-ltb _ _ c.if-text-at.true)

pub returns-then-is_one_of : goal.returns-then-is_one_of
unfolding key_value_pair
returns-then-is_one_of c = rw (lt-ltb _ _ c.if-text-at.false, sym c.is_one_of.ensures ∙ c.if-is_one_of.true)

pub returns-then-text-name_end : goal.returns-then-text-name_end
unfolding key_value_pair
returns-then-text-name_end c = rw (lt-ltb _ _ c.if-text-at.false, sym c.is_one_of.ensures ∙ c.if-is_one_of.false, ← c.until-name_end.ensures, le-ltb _ _ c.if-text-name_end.true)

-- the name is there
at_value : (c : Else-text-name_end) →
    let a = c.args in
    let e = c.until-name_end.result in
    key_value_pair a.text.now a.at ≡ bind (alt quoted unquoted a.text.now (e + 1)) (λ right n. ok (pair (span a.at e) right) (after_tag (bytes ",") a.text.now n))
at_value c = pair_named _ _ _ c.if-text-at.false (sym c.is_one_of.ensures ∙ c.if-is_one_of.false) c.until-name_end.ensures c.if-text-name_end.false

pub returns : goal.returns
returns c = rw (at_value (goal.at.returns c).Else-text-name_end, sym (c.in_ok-value.ensures), ← c.after_tag.ensures)

pub returns-in_err-value : goal.returns-in_err-value
returns-in_err-value c = ap pair_res (handed_on _ _ c.from_residual.ensures.1) ∙ rw (at_value (goal.at.returns-in_err-value c).Else-text-name_end, sym (c.in_err-value.ensures))
