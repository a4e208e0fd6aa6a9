-- `version_size`: its line, or nothing. Assumes nothing.
use borrow.Author.Rules.{rules}
use native.Mathlib.Omega.{arith}
use lib.ListN.{length-append}
use Rattle.text.specs.Nom.{bytes}
use Rattle.digits.specs.Digits.{number_text}
use Rattle.playlist.specs.Lines.{version_line}
use Rattle.playlist.proofs.Lines.{no_line}
use Rattle.measure.proofs.Sizes.{one_long}
use Rattle.measure.proofs.size.version_size.Goals as goal

pub returns-in-None-clause-size : goal.returns-in-None-clause-size
returns-in-None-clause-size c = rw (c.in-None.is, no_line) (search rules)

pub returns-in-Some-clause-size : goal.returns-in-Some-clause-size
returns-in-Some-clause-size c =
    let n = c.in-Some.n in
    rw c.in-Some.is (omega (arith, c.number_size.ensures, one_long (version_line n), length-append (number_text n) (bytes "\n")))
