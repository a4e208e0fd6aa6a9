-- `State::after_uri` meets its contract: the counts by what `Counts::after_uri` ensures, the clip in the making by what `Making::empty` does.
-- Assumes nothing.
use Rattle.media.specs.Inside.Passes.{held}
use Rattle.media.proofs.state.State.after_uri.Goals as goal

pub returns : goal.returns
returns c = (c.after_uri-counts.ensures.0, λ u i. held (c.after_uri-counts.ensures.1 u i) (c.empty-making.ensures i))
