-- `list::joined`: one pair, read as the chain's is, and then the chain (`list_joined`). Assumes nothing.
use mathlib.Core.Path.{sym, ◌∙◌, ap}
use Rattle.attributes.specs.Answers.{attr_of, value_of}
use Rattle.chains.proofs.Renewed.{list_joined}
use Rattle.chains.proofs.Overlaid.{inserted_length}
use lib.ListN.{length}
use Rattle.chains.proofs.list.joined.Goals as goal

pub returns : goal.returns
returns c =
    λ t e j at q.
    let i = c.insert.ensures in
    let v = value_of c.in-Some.value in
    list_joined _ _ _ v _ _ _ _ _ at t (e ∙ sym (ap length i ∙ inserted_length _ _ _ _ _)) (ap attr_of c.in-Some.is) j q i c.hold_later.ensures
