-- `flags_keep`: the rule, test by test. Assumes nothing.
use mathlib.Core.Bool.{◌&&◌}
use lib.Dec.{ltb}
use Rattle.tables.specs.Layout.{flag_limit}
use Rattle.rule9.specs.Rule9.{flags_keep}
use Rattle.rule9.proofs.flags_keep.Goals as goal

pub returns : goal.returns
unfolding flags_keep
returns c = λ i. ltb c.args.flags flag_limit && (c.only_with-range_offset.ensures i && (c.only_with-map_range.ensures i && c.only_with-map_offset.ensures i))
