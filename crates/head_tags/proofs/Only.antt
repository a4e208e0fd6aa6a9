-- No second answer meets a contract: from what an answer says there is a way back to it, as in text's `Only`. Assumes nothing.
use mathlib.Core.Path.{◌≡◌, refl, ap}
use Prim.Native.Nat.{ℕ}
use Rattle.text.proofs.Only.{Only, res_only}
use Rattle.tags.specs.Tags.{Tag, of_head, of_clip, unknown, comment, uri, left_out, end_list}
use Rattle.tags.proofs.Only.{head_back, head_back_lem, left_out_back, left_out_back_lem}
use Rattle.head_tags.specs.declared.Found as foundᵈ
use Rattle.head_tags.specs.declared.Found.TheVariants as foundᵛ
use Rattle.head_tags.specs.Inside.Answers.{number_res, found_of, head_res}

pub number_res_only : Only number_res
number_res_only = res_only (λ (n : ℕ). n) (λ n. n) (λ n. refl)

-- other tags are said by no answer
abbrev found_back : Tag → foundᵈ.Found
found_back (of_head t) = foundᵛ.Head (head_back t)
found_back (of_clip t) = foundᵛ.Head (head_back end_list)
found_back (unknown t) = foundᵛ.Head (head_back end_list)
found_back (comment c) = foundᵛ.Head (head_back end_list)
found_back (uri u) = foundᵛ.Head (head_back end_list)
found_back (left_out t) = foundᵛ.LeftOut (left_out_back t)

found_back_lem : (f : foundᵈ.Found) → found_back (found_of f) ≡ f
found_back_lem (foundᵛ.Head t) = ap foundᵛ.Head (head_back_lem t)
found_back_lem (foundᵛ.LeftOut t) = ap foundᵛ.LeftOut (left_out_back_lem t)

pub head_res_only : Only head_res
head_res_only = res_only found_of found_back found_back_lem
