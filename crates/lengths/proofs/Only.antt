-- An answer is determined: no second one meets a contract (`text`, `Only`). Assumes nothing.
use Prim.Native.Nat.{ℕ}
use mathlib.Core.Path.{◌≡◌, refl}
use mathlib.Core.Bool.{Bool}
use mathlib.Core.Option.{Option, none, some}
use Rattle.text.specs.Nom.{Res, fail, ok}
use Rattle.text.proofs.Only.{Only, only_by, perhaps_only, res_only, part_back, part_back_lem}
use Rattle.lengths.specs.declared.duration.Length as lengthᵈ
use Rattle.lengths.specs.declared.duration.Length.TheVariants as lengthᵛ
use Rattle.lengths.specs.declared.duration.Extinf as extinfᵈ
use Rattle.lengths.specs.Duration.{Length, ns, too_many_digits, Extinf, extinf}
use Rattle.lengths.specs.Answers.{length_seen, length_res, extinf_of, extinf_res, extinf_end}

abbrev pub length_back_lem : Length → lengthᵈ.Length
length_back_lem (ns n) = lengthᵛ.Ns n
length_back_lem too_many_digits = lengthᵛ.TooManyDigits

pub length_back : (l : lengthᵈ.Length) → length_back_lem (length_seen l) ≡ l
length_back (lengthᵛ.Ns n) = refl
length_back lengthᵛ.TooManyDigits = refl

pub length_only : Only length_seen
length_only = only_by length_seen length_back_lem length_back

pub length_res_only : Only length_res
length_res_only = res_only length_seen length_back_lem length_back

abbrev pub extinf_back : Extinf → extinfᵈ.Extinf
extinf_back (extinf l t) = record { duration = length_back_lem l; title = part_back t }

pub extinf_back_lem : (e : extinfᵈ.Extinf) → extinf_back (extinf_of e) ≡ e
extinf_back_lem e = rw (length_back e.duration, part_back_lem e.title)

pub extinf_res_only : Only extinf_res
extinf_res_only = res_only extinf_of extinf_back extinf_back_lem

pub extinf_end_only : Only extinf_end
extinf_end_only = perhaps_only (λ (e : Bool × ℕ). e) (λ e. e) (λ e. refl)
