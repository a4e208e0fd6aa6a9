use Rattle.numerals.proofs.+digits_at.Given as goal

abbrev pub decreases-digits_at : goal.decreases-digits_at
decreases-digits_at l = l.n
