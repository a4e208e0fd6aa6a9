-- `ext_map::with_range`: the cases of what the list has, in the rule's order. Assumes nothing.
use mathlib.Core.Path.{sym, ◌∙◌, ap}
use Rattle.leaves.specs.Answers.{byte_range_res}
use Rattle.attributes.specs.Answers.{value_of, attr_of}
use Rattle.attributes.proofs.ext_map.with_range.Goals as goal

pub returns-in_default : goal.returns-in_default
returns-in_default c = rw (ap attr_of c.in_default.is) c.map_of.ensures

pub returns-in_default-value : goal.returns-in_default-value
returns-in_default-value c = rw (ap attr_of c.in-Some.is, ap value_of c.in_default-value.is)

pub returns-in-Ok : goal.returns-in-Ok
returns-in-Ok c =
    let read = sym c.byte_range_val.ensures ∙ ap byte_range_res c.in-Ok.is in
    rw (ap attr_of c.in-Some.is, ap value_of c.in-Quoted.is, read) c.map_of-in-Ok.ensures

pub returns-in-Err : goal.returns-in-Err
returns-in-Err c =
    let read = sym c.byte_range_val.ensures ∙ ap byte_range_res c.in-Err.is in
    rw (ap attr_of c.in-Some.is, ap value_of c.in-Quoted.is, read)
