-- Lines by computation over the rules. Assumes nothing.
use Rattle.std.specs.Prelude.{◌≡◌, refl}
use Rattle.text.specs.Nom.{bytes}
use Rattle.digits.specs.Digits.{number_text, digits_by}
use Rattle.printing.specs.Lines.{number_line, field, refused_line}

numbers : number_line 901 ≡ bytes "901\n"
unfolding number_line number_text digits_by
numbers = refl

fields : field 0 ≡ bytes "0\t"
unfolding field number_text digits_by
fields = refl

refusals : refused_line 5 8 ≡ bytes "refused 5 at 8\n"
unfolding refused_line number_line number_text digits_by
refusals = refl
