-- What each answer of the code says, in the words of the rules. Assumes nothing.
use Rattle.std.specs.Prelude.{ℕ, Bool, Result, Option as Perhaps}
use Rattle.std.proofs.Math.Option.{Option, none, some}
use Rattle.text.specs.Nom.{Res, fail, ok}
use Rattle.text.specs.Util.{parse, or_zero}
use Rattle.text.specs.declared.Why as whyᵈ
use Rattle.text.specs.Answers.{perhaps, part_of, res_of}
use Rattle.lengths.specs.declared.duration.Length as lengthᵈ
use Rattle.lengths.specs.declared.duration.Length.TheVariants as lengthᵛ
use Rattle.lengths.specs.declared.duration.Digits as digitsᵈ
use Rattle.lengths.specs.declared.duration.Extinf as extinfᵈ
use Rattle.lengths.specs.Duration.{is_long, Digits, digits, Length, ns, too_many_digits, Extinf, extinf}

abbrev pub length_seen : lengthᵈ.Length → Length
length_seen (lengthᵛ.Ns n) = ns n
length_seen lengthᵛ.TooManyDigits = too_many_digits

abbrev pub length_res : Result (lengthᵈ.Length × ℕ) whyᵈ.Why → Res Length
length_res = res_of length_seen

-- digits as the code keeps them: a value that a u64 does not hold is 0
abbrev pub kept : Digits → Digits
kept (digits v n) = digits (or_zero (parse v)) n

abbrev pub digits_of : digitsᵈ.Digits → Digits
digits_of d = digits d.value d.count

abbrev pub digits_res : Result (digitsᵈ.Digits × ℕ) whyᵈ.Why → Res Digits
digits_res = res_of digits_of

abbrev pub extinf_of : extinfᵈ.Extinf → Extinf
extinf_of e = extinf (length_seen e.duration) (part_of e.title)

abbrev pub extinf_res : Result (extinfᵈ.Extinf × ℕ) whyᵈ.Why → Res Extinf
extinf_res = res_of extinf_of

-- the place after what a rule takes, or another where it takes nothing
abbrev pub after : {A : Type 0} → ℕ → Res A → ℕ
after at (fail why) = at
after at (ok v n) = n

-- an EXTINF without its values
abbrev pub end_of : Res Extinf → Option (Bool × ℕ)
end_of (fail why) = none
end_of (ok e n) = some (is_long e, n)

abbrev pub extinf_end : Perhaps (Bool × ℕ) → Option (Bool × ℕ)
extinf_end = perhaps (λ e. e)
