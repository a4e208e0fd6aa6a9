-- How far each rule of a length goes, by the laws of `text`: a rule's law is the rule written again. Assumes nothing.
use Prim.Native.Nat.{◌-◌}
use Rattle.text.specs.Nom.{bytes, tag, opt_tag, opt_is_not, take1, digit1, place, opt, preceded}
use Rattle.text.proofs.Takes.{Takes, takes_tag, takes_opt_tag, takes_opt_is_not, takes_one, takes_digits, takes_place, takes_done, takes_bind, takes_opt}
use Rattle.lengths.specs.Duration.{digits, counted, length_of, float, extinf, duration_title_tag}

pub takes_counted : Takes 1 counted
unfolding counted
takes_counted =
    takes_bind 0 1 place _ takes_place (λ from.
    takes_bind 1 0 digit1 _ takes_digits (λ v.
    takes_bind 0 0 place _ takes_place (λ to.
    takes_done (digits v (to - from)))))

pub takes_float : Takes 1 float
unfolding float
takes_float =
    takes_bind 1 0 counted _ takes_counted (λ left.
    takes_bind 0 0 (opt (preceded (tag (bytes ".")) counted)) _ (takes_opt 2 _ (takes_bind 1 1 (tag (bytes ".")) _ (takes_tag (bytes ".")) (λ _. takes_counted))) (λ right.
    takes_done (length_of left right)))

pub takes_duration_title : Takes 2 duration_title_tag
unfolding duration_title_tag
takes_duration_title =
    takes_bind 1 1 float _ takes_float (λ duration.
    takes_bind 0 1 (opt_tag (bytes ",")) _ (takes_opt_tag (bytes ",")) (λ _.
    takes_bind 0 1 (opt_is_not (bytes "\r\n,")) _ (takes_opt_is_not (bytes "\r\n,")) (λ title.
    takes_bind 1 0 take1 _ takes_one (λ _.
    takes_bind 0 0 (opt_tag (bytes ",")) _ (takes_opt_tag (bytes ",")) (λ _.
    takes_done (extinf duration title))))))
