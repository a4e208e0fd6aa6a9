-- `ext_map::map_held`: the cases of what is held under the first name. Assumes nothing.
use mathlib.Core.Path.{sym, ◌∙◌, ap}
use Rattle.attributes.specs.Answers.{value_of, attr_of}
use Rattle.attributes.proofs.ext_map.map_held.Goals as goal

pub returns-in_default : goal.returns-in_default
returns-in_default c = rw (sym c.attr_at-uri.ensures ∙ ap attr_of c.in_default.is)

pub returns-in_default-value : goal.returns-in_default-value
returns-in_default-value c = rw (sym c.attr_at-uri.ensures ∙ ap attr_of c.in-Some.is, ap value_of c.in_default-value.is)

pub returns : goal.returns
returns c = rw (sym c.attr_at-uri.ensures ∙ ap attr_of c.in-Some.is, ap value_of c.in-Quoted.is, ← c.attr_at-range.ensures) c.with_range.ensures
