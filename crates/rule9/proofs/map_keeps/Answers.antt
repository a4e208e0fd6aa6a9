-- `map_keeps`: the rule, test by test. Assumes nothing.
use mathlib.Core.Bool.{◌&&◌}
use Rattle.rule9.specs.Rule9.{map_keeps}
use Rattle.rule9.proofs.map_keeps.Goals as goal

pub returns : goal.returns
unfolding map_keeps
returns c =
    λ i.
    c.clip_span_fits-uri.ensures i
    && (c.clip_span_fits-list.ensures i
    && (c.zero_without-uri_start.ensures i
    && (c.zero_without-uri_end.ensures i
    && (c.zero_without-list_start.ensures i
    && (c.zero_without-list_end.ensures i
    && (c.zero_without-length.ensures i
    && c.zero_without-offset.ensures i))))))
