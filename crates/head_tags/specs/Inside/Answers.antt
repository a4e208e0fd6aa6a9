-- What each answer of the code says, in the words of the rules. Assumes nothing.
use Rattle.std.specs.Prelude.{ℕ, Result}
use Rattle.text.specs.declared.Why as whyᵈ
use Rattle.text.specs.Nom.{Res}
use Rattle.text.specs.Answers.{res_of}
use Rattle.tags.specs.Tags.{Tag, of_head, left_out}
use Rattle.tags.specs.Answers.{head_tag_of, left_out_of}
use Rattle.head_tags.specs.declared.Found as foundᵈ
use Rattle.head_tags.specs.declared.Found.TheVariants as foundᵛ

abbrev pub number_res : Result (ℕ × ℕ) whyᵈ.Why → Res ℕ
number_res = res_of (λ n. n)

abbrev pub found_of : foundᵈ.Found → Tag
found_of (foundᵛ.Head t) = of_head (head_tag_of t)
found_of (foundᵛ.LeftOut t) = left_out (left_out_of t)

abbrev pub head_res : Result (foundᵈ.Found × ℕ) whyᵈ.Why → Res Tag
head_res = res_of found_of
