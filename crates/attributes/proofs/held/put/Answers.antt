-- `held::put`: the two kinds. Assumes nothing.
use Rattle.attributes.proofs.held.put.Goals as goal

pub returns-in-Unquoted : goal.returns-in-Unquoted
returns-in-Unquoted c = rw c.in-Unquoted.is c.put_words.ensures

pub returns-in-Quoted : goal.returns-in-Quoted
returns-in-Quoted c = rw c.in-Quoted.is c.put_words-in-Quoted.ensures
