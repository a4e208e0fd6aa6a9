-- `list::remembered`: both chains brought forward, then the cases. Assumes nothing.
use mathlib.Core.Path.{sym, ◌∙◌}
use Rattle.chains.proofs.Renewed.{loaded}
use Rattle.chains.proofs.list.remembered.Goals as goal

pub returns-then-joins : goal.returns-then-joins
returns-then-joins c = λ t z. c.join_first.ensures (loaded _ _ _ _ _ _ c.load.ensures c.forward_all-m.ensures.first c.forward_all-m.ensures.second c.forward_all-m.ensures.fails t) (sym c.joins.ensures ∙ c.if-joins.true) _ c.while_in-name.ensures

pub returns-then-joins-2 : goal.returns-then-joins-2
returns-then-joins-2 c = λ t z. c.join_second.ensures (loaded _ _ _ _ _ _ c.load.ensures c.forward_all-m.ensures.first c.forward_all-m.ensures.second c.forward_all-m.ensures.fails t) (sym c.joins-2.ensures ∙ c.if-joins-2.true) _ c.while_in-name.ensures

pub returns : goal.returns
returns c = λ t z. c.begun.ensures (loaded _ _ _ _ _ _ c.load.ensures c.forward_all-m.ensures.first c.forward_all-m.ensures.second c.forward_all-m.ensures.fails t) z
