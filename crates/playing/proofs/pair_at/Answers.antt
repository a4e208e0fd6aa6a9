-- `pair_at`: the moment that was reached, and the clip found in what is left of it, are the rule's pair (`spot_is`). Assumes nothing.
use native.Mathlib.Omega.{arith}
use Rattle.playing.proofs.Pairs.{end_of, spot_is}
use Rattle.playing.proofs.pair_at.Goals as goal

pub reached-m-requires : goal.reached-m-requires
reached-m-requires c =
    let g = c.requires.0 in let w = c.requires.1 in
    (omega (arith, w, g.short), g.rate_low, g.rate_high, end_of _ _ _ _ _ g w)

pub returns : goal.returns
returns c =
    let g = c.requires.0 in let w = c.requires.1 in let m = c.reached-m.ensures in
    spot_is _ _ _ _ _ g w _ _ _ _ _ m.0 m.1 c.clip_within.ensures
