-- `blocks::digits_end`: what is passed are digits. Assumes nothing.
use Rattle.std.proofs.Common.{rules, sym, ◌∙◌}
use Rattle.text.specs.Nom.{is_digit}
use Rattle.blocks.proofs.digits_end.Goals as goal

pub returns-then-is_digit : goal.returns-then-is_digit
unfolding is_digit
returns-then-is_digit c = c.digits_end.ensures ∙ sym (c.passed_end-blocks.ensures.run is_digit (λ block e. search rules))
